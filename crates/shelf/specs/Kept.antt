-- What a reader of a module holds. Assumes nothing.
use Rattle.std.specs.Prelude.{◌≡◌, List, length, take, Ok, Err, Result}
use Rattle.order.specs.declared.Row.{Ghosts}
use Rattle.base.specs.declared.refusal.Refusal.{Refusal}
use Rattle.table.specs.declared.ordered.OrderedTable.{OrderedTable}
use Rattle.procedures.specs.declared.row.Procedure.{Procedure}
use Rattle.procedures.specs.declared.row.Parent.{Parent}
use Rattle.lookup.specs.Reading.{in_order, most_procedures}
use Rattle.lookup.specs.Keeping.{parents}

-- the used rows of a table
abbrev pub used : {R : Type 0} {g : Ghosts R} → OrderedTable R g → List R
used t = take t.count t.rows.now

-- two tables hold these procedures, one kept after the other
pub record Holds {g : Ghosts Procedure} {h : Ghosts Parent} (ps : List Procedure) (t : OrderedTable Procedure g) (u : OrderedTable Parent h) : Type 0 where
  pub procedures_held : used t ≡ in_order ps
  pub long : length t.rows.now ≡ most_procedures
  pub parents_held : used u ≡ parents ps
  pub parents_long : length u.rows.now ≡ most_procedures

-- what a call that is to keep these procedures, or to be refused, leaves: its tables hold them, or it is refused so
abbrev pub Keeps : {g : Ghosts Procedure} {h : Ghosts Parent} {U : Type 0} → Result (List Procedure) Refusal → OrderedTable Procedure g → OrderedTable Parent h → Result U Refusal → Type 0
Keeps wanted t u (Ok x) = (ps : List Procedure) × (wanted ≡ Ok ps) × Holds ps t u
Keeps wanted t u (Err e) = wanted ≡ Err e
