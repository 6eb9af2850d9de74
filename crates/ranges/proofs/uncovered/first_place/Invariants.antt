use Rattle.std.proofs.Common.{◌≡◌, ℕ, ◌-◌, ◌^◌, ◌<◌, ◌≤◌, not}
use Rattle.ranges.specs.Uncovered.{uncovered_at}
use Rattle.ranges.proofs.uncovered.first_place.Given as goal

abbrev pub invariant-loop-place : goal.invariant-loop-place
invariant-loop-place l = record {
  reached : l.from ≤ l.place;
  passed : (p : ℕ) → l.from ≤ p → p < l.place → uncovered_at l.depth l.ranges p ≡ not l.wanted;
}

abbrev pub decreases-loop-place : goal.decreases-loop-place
decreases-loop-place l = 2 ^ 32 - l.place
