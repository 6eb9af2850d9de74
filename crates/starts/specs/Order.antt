-- That a table stays in order, whatever a call answers. Assumes nothing.
use Rattle.std.specs.Prelude.{ℕ, ◌≤◌, List, length, take}
use Rattle.order.specs.Rank.{InOrder}
use Rattle.table.specs.declared.Table.{Table}

-- the used rows lie within the slice, and are in order
abbrev pub Ordered : {R : Type 0} → (R → List ℕ) → Table R → Type 0
Ordered rank t = (t.count ≤ length t.rows.now) × InOrder rank (take t.count t.rows.now)

-- ordered before, ordered after
abbrev pub StaysOrdered : {R : Type 0} → (R → List ℕ) → Table R → Table R → Type 0
StaysOrdered rank old new = Ordered rank old → Ordered rank new
