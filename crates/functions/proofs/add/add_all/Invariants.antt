use Rattle.std.proofs.Common.{◌≤◌, map, length, take, Ok}
use Rattle.std.specs.Prelude.{⊤}
use Rattle.table.specs.Slice.{SameOrdered}
use Rattle.sections.specs.Used.{used as used_sections}
use Rattle.functions.specs.Adding.{Adds}
use Rattle.functions.proofs.add.add_all.Given as goal

abbrev pub invariant-loop-row : goal.invariant-loop-row
invariant-loop-row g l =
    (l.row-index ≤ length l.rows)
    × Adds {U = ⊤} (used_sections l.initial.sections-2) (map g.T.HasOffset.offset_of (take l.row-index l.rows)) l.initial.addresses l.addresses (Ok tt)
    × SameOrdered l.initial.addresses l.addresses
    × (l.initial.addresses.count ≤ l.addresses.count)
