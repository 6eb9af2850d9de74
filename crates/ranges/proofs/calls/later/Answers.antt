use Rattle.std.proofs.Common.{rules}
use Rattle.ranges.proofs.calls.later.Goals as goal

pub returns-then-range-other : goal.returns-then-range-other
returns-then-range-other c = search rules

pub returns-else-range-other : goal.returns-else-range-other
returns-else-range-other c = search rules
