use Rattle.std.proofs.Common.{rules}
use Rattle.image.proofs.Checks.{outside_position}
use Rattle.image.proofs.check.check_parts.Goals as goal

pub returns-in-Some : goal.returns-in-Some
returns-in-Some g c = search (rules, outside_position)
