use Rattle.std.proofs.Common.{rules}
use Rattle.ranges.proofs.cover.is_uncovered.Goals as goal

pub returns-then-is_covered_at_next_depth : goal.returns-then-is_covered_at_next_depth
returns-then-is_covered_at_next_depth c = search rules
