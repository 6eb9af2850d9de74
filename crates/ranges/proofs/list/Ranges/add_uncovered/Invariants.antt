use Rattle.std.proofs.Common.{◌-◌, ◌^◌}
use Rattle.ranges.specs.Held.{held}
use Rattle.ranges.proofs.Completed.{Swept}
use Rattle.ranges.proofs.list.Ranges.add_uncovered.Given as goal

abbrev pub invariant-loop-start : goal.invariant-loop-start
invariant-loop-start l = Swept l.depth l.site (held l.fn.self) (held l.self) l.place

abbrev pub decreases-loop-start : goal.decreases-loop-start
decreases-loop-start l = 2 ^ 32 - l.place
