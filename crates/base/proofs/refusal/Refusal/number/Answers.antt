use Rattle.std.proofs.Common.{rules}
use Rattle.base.proofs.refusal.Refusal.number.Goals as goal

pub returns-in-Fault : goal.returns-in-Fault
returns-in-Fault c = search rules
