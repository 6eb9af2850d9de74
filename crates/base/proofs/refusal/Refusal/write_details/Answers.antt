use Rattle.std.proofs.Common.{arith}
use Rattle.std.proofs.lemmas.Grind.{common_steps}
use Rattle.base.proofs.refusal.Refusal.write_details.Goals as goal

pub returns-in-Overlapping : goal.returns-in-Overlapping
returns-in-Overlapping g c = grind (arith, common_steps)

pub returns-in-Fault : goal.returns-in-Fault
returns-in-Fault g c = grind (arith, common_steps)
