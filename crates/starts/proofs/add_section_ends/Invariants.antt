use Rattle.std.proofs.Common.{◌≤◌, List, ◌++◌, length, take}
use Rattle.base.specs.declared.context.KnownStart.{KnownStart}
use Rattle.base.specs.Rows.{start_rank}
use Rattle.table.specs.Slice.{SameSlice}
use Rattle.building.specs.Starts.{section_ends}
use Rattle.building.specs.Filling.{Holds}
use Rattle.sections.specs.Used.{used}
use Rattle.starts.specs.Order.{StaysOrdered}
use Rattle.starts.proofs.add_section_ends.Given as goal

abbrev pub invariant-loop-index : goal.invariant-loop-index
invariant-loop-index l =
    (l.index ≤ length (used l.sections))
    × ((cs old : List KnownStart) → Holds cs old l.initial.starts.rows.now l.initial.starts.count → Holds (cs ++ section_ends 1 (take l.index (used l.sections))) old l.starts.rows.now l.starts.count)
    × SameSlice l.initial.starts l.starts
    × StaysOrdered start_rank l.initial.starts l.starts
