-- What a reader of a module keeps, and how far it has come. Assumes nothing.
use Rattle.std.proofs.Common.{◌≡◌, ℕ, ◌+◌, ◌<◌, ◌≤◌, Bool, true, false, cond, not, ltb, List, [], ◌∷◌, ◌++◌, length, take, drop, Some, None, Ok, Err, sym, ap, ◌∙◌, arith}
use Rattle.std.specs.List.{slice_get}
use Rattle.std.proofs.lemmas.Bool.{le-ltb}
use Rattle.order.specs.declared.Row.{Ghosts}
use Rattle.order.specs.Placed.{placed, Settled}
use Rattle.base.specs.declared.image.FaultCode.{FaultCode}
use Rattle.base.specs.declared.refusal.Refusal.{Refusal}
use Rattle.image.specs.Image.{entry}
use Rattle.building.proofs.Items.{item_within, end_drop, entry_item, entry_end, entry_fault}
use Rattle.table.specs.declared.ordered.OrderedTable.{OrderedTable}
use Rattle.provider.specs.Modules.{Module}
use Rattle.provider.specs.declared.symbols.SymbolRecord.{SymbolRecord}
use Rattle.provider.specs.declared.symbols.Symbol.{Symbol}
use Rattle.procedures.specs.Rows.{procedure_rank, procedure_meets, parent_rank, parent_meets, parent_of}
use Rattle.procedures.specs.declared.row.Procedure.{Procedure}
use Rattle.procedures.specs.declared.row.Parent.{Parent}
use Rattle.lookup.specs.Reading.{most_procedures, in_order, kept, with_kept, all_kept}
use Rattle.lookup.specs.Keeping.{Read, kept_by, parents}
use Rattle.lookup.proofs.Keeping.{kept_by-parents}
use Rattle.lookup.proofs.Reading.{all_kept_step, in_order_push, parents_push, parents-length}
use Rattle.shelf.specs.Kept.{Holds, used}

module _ {g : Ghosts Procedure} {g' : Ghosts Parent} {ps : List Procedure} {t : OrderedTable Procedure g} {u : OrderedTable Parent g'} (h : Holds ps t u) where
  -- the rows of the parents suffice to tell what a record adds
  pub kept_is : (k : ℕ) (s : Symbol) → kept_by (used u) k s ≡ kept ps k s
  kept_is k s = ap (λ q. kept_by q k s) h.parents_held ∙ kept_by-parents ps k s

  module _ (p : Procedure) where
    next : placed procedure_rank procedure_meets p (used t) ≡ in_order (ps ++ p ∷ [])
    next = ap (placed procedure_rank procedure_meets p) h.procedures_held ∙ sym (in_order_push ps p)

    next_parents : placed parent_rank parent_meets (parent_of p) (used u) ≡ parents (ps ++ p ∷ [])
    next_parents = ap (placed parent_rank parent_meets (parent_of p)) h.parents_held ∙ sym (parents_push ps p)

    -- where the procedure finds room, so does its parent's row
    pub room : (q : Parent) (n : ℕ) (rows : List Procedure) (b : Bool) (m : ℕ) (rows' : List Parent) → q ≡ parent_of p → Settled procedure_rank procedure_meets t.rows.now t.count p (Some n) rows → Settled parent_rank parent_meets u.rows.now u.count q (cond b (Some m) None) rows' → b ≡ not (ltb most_procedures (length (in_order (ps ++ p ∷ []))))
    room q n rows true m rows' e s r = ap not (sym (le-ltb most_procedures (length (in_order (ps ++ p ∷ []))) (let l = h.long in let d = ap length next in let f = s.0 in let g = s.1 in omega arith)))
    room q n rows false m rows' e s r =
        let l = h.long in
        let d = ap length next in
        let f = s.0 in
        let g = s.1 in
        let i = ap length (ap (λ x. placed parent_rank parent_meets x (used u)) e ∙ next_parents) in
        let j = parents-length (ps ++ p ∷ []) in
        let k = h.parents_long in
        let o = r.0 in
        absurd (omega arith)

-- the first k symbols of module m were read
pub record Progress {g : Ghosts Procedure} {h : Ghosts Parent} (m : ℕ) (x : Module) (k : ℕ) (t : OrderedTable Procedure g) (u : OrderedTable Parent h) : Type 0 where
  pub within : k ≤ length x.symbols
  pub ps : List Procedure
  pub held : Holds ps t u
  pub rest : all_kept m 0 [] x.symbols ≡ all_kept m k ps (drop k x.symbols)

module _ {g : Ghosts Procedure} {h : Ghosts Parent} {m : ℕ} {x : Module} {k : ℕ} {t : OrderedTable Procedure g} {u : OrderedTable Parent h} (p : Progress m x k t u) where
  module _ {r : SymbolRecord} (found : entry x.symbols x.symbols_end k ≡ Ok (Some r)) where
    at_k : slice_get x.symbols k ≡ Some r
    at_k = entry_item x.symbols x.symbols_end k r found

    pub inside : k < length x.symbols
    inside = item_within x.symbols k r at_k

    pub progress_more : {t' : OrderedTable Procedure g} {u' : OrderedTable Parent h} → ((ps : List Procedure) → Holds ps t u → (after : List Procedure) × (with_kept m k ps (kept ps k r.symbol) ≡ Ok after) × Holds after t' u') → Progress m x (k + 1) t' u'
    progress_more more =
        let after = more p.ps p.held in
        record {
          within = (let i = inside in omega arith);
          ps = after.0;
          held = after.2;
          rest = p.rest ∙ all_kept_step m k p.ps x.symbols r at_k ∙ rw after.1;
        }

    pub read_refused : {e : Refusal} → ((ps : List Procedure) → Holds ps t u → with_kept m k ps (kept ps k r.symbol) ≡ Err e) → all_kept m 0 [] x.symbols ≡ Err e
    read_refused refused = let why = refused p.ps p.held in p.rest ∙ all_kept_step m k p.ps x.symbols r at_k ∙ rw why

  ended : slice_get x.symbols k ≡ None → (ps : List Procedure) × (all_kept m 0 [] x.symbols ≡ Ok ps) × (take t.count t.rows.now ≡ in_order ps) × (t.count ≤ most_procedures)
  ended e = (p.ps, p.rest ∙ ap (all_kept m k p.ps) (end_drop x.symbols k e), p.held.procedures_held, (let f = t.few in let l = p.held.long in omega arith))

  pub read_whole : entry x.symbols x.symbols_end k ≡ Ok None → Read m x t.rows.now t.count (Ok (Ok tt))
  read_whole found = let end = entry_end x.symbols x.symbols_end k found in (sym end.1, ended end.0)

  pub read_faulty : {code : FaultCode} → entry x.symbols x.symbols_end k ≡ Err code → Read m x t.rows.now t.count (Ok (Err code))
  read_faulty {code} found = let end = entry_fault x.symbols x.symbols_end k code found in (sym end.1, ended end.0)
