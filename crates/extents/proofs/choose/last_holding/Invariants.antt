use Rattle.std.proofs.Common.{◌≡◌, ◌≤◌, take}
use Rattle.lookup.specs.Finding.{chosen}
use Rattle.extents.proofs.choose.last_holding.Given as goal

abbrev pub invariant-loop-row : goal.invariant-loop-row
invariant-loop-row l = record {
  within : l.upto ≤ l.initial.upto;
  left_out : chosen l.offset (take l.upto l.procedures.rows.now) ≡ chosen l.offset (take l.initial.upto l.procedures.rows.now);
}

abbrev pub decreases-loop-row : goal.decreases-loop-row
decreases-loop-row l = l.upto
