use Rattle.std.proofs.Common.{rules}
use Rattle.image.proofs.check.check_count.Goals as goal

pub returns-then-rows-most : goal.returns-then-rows-most
returns-then-rows-most g c = search rules
