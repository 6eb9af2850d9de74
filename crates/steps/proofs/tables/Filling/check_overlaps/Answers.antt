use Rattle.std.proofs.Common.{arith}
use Rattle.std.proofs.lemmas.Grind.{common_steps}
use Rattle.steps.proofs.tables.Filling.check_overlaps.Goals as goal

pub returns-then-overlap : goal.returns-then-overlap
returns-then-overlap c = grind (arith, common_steps)
