use Rattle.std.proofs.Common.{is_ok}
use Rattle.shelf.proofs.Kept.{room}
use Rattle.shelf.proofs.reading.insert.Goals as goal

pub returns-clause-room : goal.returns-clause-room
returns-clause-room c ps h =
    room h c.args.procedure c.into.result _ _ (is_ok c.insert-2.result) _ _ c.into.ensures c.in_ok-insert.ensures.outcome c.insert-2.ensures.outcome
