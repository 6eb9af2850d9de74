use Rattle.std.proofs.Common.{rules}
use Rattle.ranges.proofs.list.Ranges.empty.Goals as goal

pub returns : goal.returns
returns c = search rules
