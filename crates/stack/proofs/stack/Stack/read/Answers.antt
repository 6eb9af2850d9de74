use Rattle.std.proofs.Common.{rules}
use Rattle.stack.proofs.stack.Stack.read.Goals as goal

pub returns-in_err-refuse : goal.returns-in_err-refuse
returns-in_err-refuse g c = search rules
