use Rattle.std.proofs.Common.{arith}
use Rattle.modules.proofs.Searches.{unrisen_position}
use Rattle.modules.proofs.check.check_part_rises.Goals as goal

pub returns-in-Some : goal.returns-in-Some
returns-in-Some g c = grind (arith, unrisen_position)

pub returns-in-None : goal.returns-in-None
returns-in-None g c = grind (arith, unrisen_position)
