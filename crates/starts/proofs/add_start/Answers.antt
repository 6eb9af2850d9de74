use Rattle.std.proofs.Common.{rules}
use Rattle.std.specs.Result.{is_ok}
use Rattle.starts.proofs.Adding.{start_added}
use Rattle.starts.proofs.add_start.Goals as goal

pub returns-clause-added : goal.returns-clause-added
returns-clause-added c = λ cs old h e.
    start_added cs old c.args.starts.now c.insert.new.self c.args.start (is_ok c.insert.result) _ h c.insert.ensures.outcome (search rules) e
