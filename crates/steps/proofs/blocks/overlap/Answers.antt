use Rattle.std.proofs.Common.{rules}
use Rattle.steps.proofs.blocks.overlap.Goals as goal

pub returns-then-before-next : goal.returns-then-before-next
returns-then-before-next c = search rules
