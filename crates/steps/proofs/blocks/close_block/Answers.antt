use Rattle.std.proofs.Common.{rules}
use Rattle.std.specs.Result.{is_ok}
use Rattle.steps.proofs.Adding.{block_added}
use Rattle.steps.proofs.blocks.close_block.Goals as goal

pub returns-clause-added : goal.returns-clause-added
returns-clause-added c = λ bs old h e.
    block_added bs old c.args.contributions.now c.insert.new.self c.args.block (is_ok c.insert.result) _ h c.insert.ensures.outcome (search rules) e
