use Rattle.std.proofs.Common.{rules}
use Rattle.stack.proofs.find.stack_at.Goals as goal

pub returns : goal.returns
returns g c = search rules
