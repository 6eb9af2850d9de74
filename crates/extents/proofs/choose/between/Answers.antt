use Rattle.std.proofs.Common.{rules}
use Rattle.extents.proofs.choose.between.Goals as goal

pub returns : goal.returns
returns c = search rules
