use Rattle.std.proofs.Common.{◌≡◌, ◌-◌, ◌≤◌, length, take}
use Rattle.ranges.specs.Held.{held}
use Rattle.ranges.proofs.Depths.{Upto}
use Rattle.ranges.proofs.list.Ranges.calls_at.Given as goal

abbrev pub invariant-loop-count : goal.invariant-loop-count
invariant-loop-count l = record { few : l.count ≤ 32; long : length l.rows ≡ 32; found : Upto 32 l.place (held l.self) l.count (take l.count l.rows) }

abbrev pub decreases-loop-count : goal.decreases-loop-count
decreases-loop-count l = 32 - l.count
