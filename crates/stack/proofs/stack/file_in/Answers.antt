use Rattle.std.proofs.Common.{rules}
use Rattle.stack.proofs.stack.file_in.Goals as goal

pub returns : goal.returns
returns g c = search rules
