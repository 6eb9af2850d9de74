use Rattle.std.proofs.Common.{arith}
use Rattle.std.proofs.lemmas.Grind.{common_steps}
use Rattle.lines.proofs.better.Goals as goal

pub returns-then-further : goal.returns-then-further
returns-then-further c = grind (arith, common_steps)

pub returns-else-row-place : goal.returns-else-row-place
returns-else-row-place c = grind (arith, common_steps)
