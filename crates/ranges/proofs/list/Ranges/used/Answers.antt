use Rattle.std.proofs.Common.{refl}
use Rattle.ranges.proofs.list.Ranges.used.Goals as goal

pub returns : goal.returns
returns c = refl
