-- What an insertion keeps of a table's order. Assumes nothing.
use Rattle.std.proofs.Common.{◌≡◌, ℕ, ◌≤◌, Bool, true, false, cond, List, length, take, Some, None, sym, refl, subst}
use Rattle.order.specs.declared.Meeting.{Meeting}
use Rattle.order.specs.Placed.{Settled}
use Rattle.order.specs.Rank.{InOrder}
use Rattle.order.proofs.Insertion.{settled_in_order}
use Rattle.table.specs.declared.Table.{Table}
use Rattle.table.specs.Slice.{SameSlice}
use Rattle.starts.specs.Order.{StaysOrdered}

-- from what `insert` promises of any table
pub insert_ordered : {R : Type 0} (rank : R → List ℕ) (meets : R → R → Meeting) (old new : Table R) (row : R) (came : Bool) → (InOrder rank (take old.count old.rows.now) → Settled rank meets old.rows.now old.count row (cond came (Some new.count) None) new.rows.now) → (came ≡ false → new.count ≡ old.count) → SameSlice old new → StaysOrdered rank old new
insert_ordered rank meets old new row true outcome full slice h =
    let s = outcome h.1 in
    (subst (λ n. new.count ≤ n) (sym slice.1) s.1, settled_in_order rank meets old.rows.now old.count new.count row new.rows.now h.1 s)
insert_ordered rank meets old new row false outcome full slice h =
    subst (λ xs. (new.count ≤ length xs) × InOrder rank (take new.count xs)) (sym (outcome h.1).1)
    (subst (λ n. (n ≤ length old.rows.now) × InOrder rank (take n old.rows.now)) (sym (full refl)) h)
