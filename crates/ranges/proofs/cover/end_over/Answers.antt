use Rattle.std.proofs.Common.{rules}
use Rattle.ranges.proofs.cover.end_over.Goals as goal

pub returns : goal.returns
returns c = search rules
