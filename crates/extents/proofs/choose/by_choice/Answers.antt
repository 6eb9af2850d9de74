use Rattle.std.proofs.Common.{rules}
use Rattle.extents.proofs.choose.by_choice.Goals as goal

pub returns-in-None : goal.returns-in-None
returns-in-None c = search rules
