-- The rows of a site that opens, one after another. Assumes nothing.
use Rattle.std.proofs.Common.{◌≡◌, ℕ, ◌+◌, ◌<◌, nat_le, Bool, true, false, cond, List, [], ◌∷◌, length, drop, Some, None, Option, Ok, Err, Result, sym, refl, ap, ◌∙◌}
use Rattle.std.specs.List.{slice_get}
use Rattle.order.specs.Rank.{first}
use Rattle.base.specs.declared.refusal.Refusal.{Refusal}
use Rattle.base.specs.declared.refusal.Refusal.TheVariants.{SitesTooDeep}
use Rattle.base.specs.declared.image.FaultCode.{FaultCode}
use Rattle.base.specs.Lists.{Ending}
use Rattle.image.specs.Image.{entry}
use Rattle.building.specs.Starts.{or_else}
use Rattle.building.proofs.Items.{item_drop, item_within, end_drop, entry_item, entry_end, entry_fault}
use Rattle.provider.specs.declared.symbols.SiteRow.{SiteRow}
use Rattle.frames.specs.declared.range.InlineRange.{InlineRange}
use Rattle.frames.specs.declared.range.OpenSite.{OpenSite}
use Rattle.inlining.specs.Steps.{then}
use Rattle.inlining.specs.Sites.{Site}
use Rattle.inlining.specs.Ranges.{Walked, most_open, kept, file_of, range_of, with_range, with_rows, opened}
use Rattle.sites.specs.Rows.{filed, row_added, rows_added}

or_else-none : (f : Option ℕ) → or_else f None ≡ f
or_else-none None = refl
or_else-none (Some x) = refl

file_of_more : (f : Option ℕ) (row : SiteRow) (rows : List SiteRow) → or_else (or_else f (file_of (row ∷ []))) (file_of rows) ≡ or_else f (file_of (row ∷ rows))
file_of_more (Some x) row rows = refl
file_of_more None row rows =
    elim (kept row) as (λ b. or_else (elim (cond b (Some row) None) [ None ↦ None | Some r ↦ Some r.file ]) (file_of rows) ≡ elim (cond b (Some row) (first kept rows)) [ None ↦ None | Some r ↦ Some r.file ]) [ true ↦ refl | false ↦ refl ]

module _ (m k : ℕ) (sites : List OpenSite) where
  -- what all rows add at once
  abbrev added : OpenSite → List SiteRow → List SiteRow → Result (List InlineRange) Refusal → Result Walked Refusal
  added s rows rest r = then r (λ rs. then (with_rows m k (length sites) s.inlinee rs rest) (λ after. Ok (record { sites = filed s rows ∷ sites; ranges = after })))

  rows_added_all : (rows : List SiteRow) (s : OpenSite) (rs : List InlineRange) → rows_added m k rows (record { sites = s ∷ sites; ranges = rs }) ≡ added s rows rows (Ok rs)
  rows_added_all [] s rs = ap (λ f. Ok (record { sites = record s { file = f } ∷ sites; ranges = rs })) (sym (or_else-none s.file))
  rows_added_all (row ∷ rows) s rs =
      elim (with_range m k rs (range_of (length sites) s.inlinee row)) as (λ r. then (then r (λ after. Ok (record { sites = filed s (row ∷ []) ∷ sites; ranges = after }))) (λ v. rows_added m k rows v) ≡ then (then r (λ after. with_rows m k (length sites) s.inlinee after rows)) (λ after. Ok (record { sites = filed s (row ∷ rows) ∷ sites; ranges = after }))) [
        | Ok after ↦
            rows_added_all rows (filed s (row ∷ [])) after
            ∙ ap (λ f. then (with_rows m k (length sites) s.inlinee after rows) (λ rs. Ok (record { sites = record s { file = f } ∷ sites; ranges = rs }))) (file_of_more s.file row rows)
        | Err e ↦ refl
      ]

-- a site opens without its rows, and then they are added
pub opened_then : (m : ℕ) (rows : Site → List SiteRow) (s : Site) (w : Walked) → opened m rows s w ≡ then (opened m (λ _. []) s w) (λ v. rows_added m s.item (rows s) v)
opened_then m rows s w = on (nat_le most_open (length w.sites))
  where
    top : OpenSite
    top = record { inlinee = s.inlinee; end = s.end; file = None; from = length w.ranges }

    on : (b : Bool) → cond b (Err (SitesTooDeep m s.item)) (added m s.item w.sites top (rows s) (rows s) (Ok w.ranges)) ≡ then (cond b (Err (SitesTooDeep m s.item)) (Ok (record { sites = top ∷ w.sites; ranges = w.ranges }))) (λ v. rows_added m s.item (rows s) v)
    on true = refl
    on false = sym (rows_added_all m s.item w.sites (rows s) top w.ranges)

-- a site has opened, and its rows are to come
pub rows_begin : (m : ℕ) (rows : Site → List SiteRow) (s : Site) (w v : Walked) → Ok v ≡ opened m (λ _. []) s w → rows_added m s.item (rows s) v ≡ opened m rows s w
rows_begin m rows s w v h = sym (opened_then m rows s w ∙ ap (λ r. then r (λ v. rows_added m s.item (rows s) v)) (sym h))

-- one answer more to the questions for rows, where those from number n on come to all
module _ (m k : ℕ) (rows : List SiteRow) (end : Ending) (n : ℕ) (w : Walked) (all : Result Walked Refusal) (come : rows_added m k (drop n rows) w ≡ all) where
  abbrev step : Result Walked Refusal → Result Walked Refusal
  step r = then r (λ v. rows_added m k (drop (n + 1) rows) v)

  module _ (row : SiteRow) (o : Option SiteRow) (answered : Ok o ≡ entry rows end n) (is_row : o ≡ Some row) where
    row_there : slice_get rows n ≡ Some row
    row_there = entry_item rows end n row (sym answered ∙ ap Ok is_row)

    row_first : all ≡ step (row_added m k row w)
    row_first = sym come ∙ ap (λ rs. rows_added m k rs w) (item_drop rows n row row_there)

    pub row_on : (v : Walked) → Ok v ≡ row_added m k row w → rows_added m k (drop (n + 1) rows) v ≡ all
    row_on v h = sym (row_first ∙ ap step (sym h))

    pub row_refused : (e : Refusal) → Err e ≡ row_added m k row w → Err e ≡ all
    row_refused e h = sym (row_first ∙ ap step (sym h))

    pub row_within : n < length rows
    row_within = item_within rows n row row_there

  pub rows_end : entry rows end n ≡ Ok None → Ok w ≡ all
  rows_end e = ap (λ rs. rows_added m k rs w) (sym (end_drop rows n (entry_end rows end n e).0)) ∙ come

  pub rows_fault : (code : FaultCode) (q : Result (Option SiteRow) FaultCode) → q ≡ Err code → q ≡ entry rows end n → Ok w ≡ all
  rows_fault code q e a = ap (λ rs. rows_added m k rs w) (sym (end_drop rows n (entry_fault rows end n code (sym a ∙ e)).0)) ∙ come
