use Rattle.std.proofs.Common.{◌≤◌, List, [], length, take}
use Rattle.base.specs.declared.context.KnownStart.{KnownStart}
use Rattle.base.specs.Rows.{start_rank}
use Rattle.table.specs.Slice.{SameSlice}
use Rattle.building.specs.Starts.{symbol_starts}
use Rattle.building.specs.Filling.{Holds}
use Rattle.sections.specs.Used.{used}
use Rattle.starts.specs.Order.{StaysOrdered}
use Rattle.starts.proofs.read_public_symbols.Given as goal

abbrev pub invariant-loop-item : goal.invariant-loop-item
invariant-loop-item g l =
    let symbols = (g.S.ImageSource.image l.source).symbols in
    (l.item ≤ length symbols)
    × ((old : List KnownStart) → Holds [] old l.initial.starts.rows.now l.initial.starts.count → Holds (symbol_starts (used l.sections) (take l.item symbols)) old l.starts.rows.now l.starts.count)
    × SameSlice l.initial.starts l.starts
    × StaysOrdered start_rank l.initial.starts l.starts
