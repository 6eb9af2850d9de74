use Rattle.std.proofs.Common.{sym, subst, rules}
use Rattle.order.specs.Rank.{Rises}
use Rattle.procedures.specs.Rows.{procedure_rank}
use Rattle.lookup.proofs.Reading.{in_order-rises}
use Rattle.shelf.proofs.shelf.Shelf.load.Goals as goal

pub invariant_of-self-in-Ok : goal.invariant_of-self-in-Ok
invariant_of-self-in-Ok g c =
    let kept = c.in_ok-read_procedures.ensures.read.1 in
    record { few = kept.3; rises = subst (Rises procedure_rank) (sym kept.2) (in_order-rises kept.0); stretched = search rules }
