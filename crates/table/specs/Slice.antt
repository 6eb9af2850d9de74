-- What no insertion changes in a table. Assumes nothing.
use Rattle.std.specs.Prelude.{◌≡◌, length}
use Rattle.order.specs.declared.Row.{Ghosts}
use Rattle.table.specs.declared.Table.{Table}
use Rattle.table.specs.declared.ordered.OrderedTable.{OrderedTable}

-- the same lent slice, as long as before
abbrev pub SameSlice : {R : Type 0} → Table R → Table R → Type 0
SameSlice old new = (new.rows.ghost_name ≡ old.rows.ghost_name) × (length new.rows.now ≡ length old.rows.now)

-- the same of tables in order
abbrev pub SameOrdered : {R : Type 0} {g : Ghosts R} → OrderedTable R g → OrderedTable R g → Type 0
SameOrdered old new = (new.rows.ghost_name ≡ old.rows.ghost_name) × (length new.rows.now ≡ length old.rows.now)
