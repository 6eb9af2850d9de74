-- What one turn does to the open sites and the ranges. Assumes nothing.
use Rattle.std.proofs.Common.{◌≡◌, ℕ, ◌+◌, ◌<◌, ◌≤◌, max, Bool, true, false, cond, not, ◌||◌, ◌&&◌, eqb, ltb, leb, List, [], ◌∷◌, ◌++◌, map, length, Some, None, Ok, Err, Option, Result, sym, refl, ap, ◌∙◌, ⊎_elim, append_assoc, append-nil, arith}
use Rattle.std.specs.List.{list_any, filter_map, cons_option, fold}
use Rattle.std.proofs.lemmas.Bool.{cases_Bool, and_parts, and_left, or_cases, lt-ltb, ltb-true, leb-false, eqb-true}
use Rattle.std.proofs.lemmas.List.Folds.{list_any-append}
use Rattle.order.specs.Rank.{inside}
use Rattle.base.specs.declared.refusal.Refusal.{Refusal}
use Rattle.provider.specs.declared.symbols.SiteRow.{SiteRow}
use Rattle.frames.specs.declared.range.InlineRange.{InlineRange}
use Rattle.frames.specs.declared.range.OpenSite.{OpenSite}
use Rattle.inlining.specs.Steps.{then}
use Rattle.inlining.specs.Sites.{Site}
use Rattle.inlining.specs.Stretches.{Stretch}
use Rattle.inlining.specs.Ranges.{most_open, range_of, range_refusal, unless_refused, with_range, with_rows, file_of, over, covered, furthest, uncovered, added_range, Walked, since, fitting, completed, closed, opened}
use Rattle.inlining.specs.Laws.{keeps}
use Rattle.inlining.proofs.Stretches.{within, longest}

pub err-ok : {X G : Type 0} (e : Refusal) (x : X) → ◌≡◌ {A = Result X Refusal} (Err e) (Ok x) → G
err-ok e x h = absurd cc

pub ok_is : {X : Type 0} (x y : X) → ◌≡◌ {A = Result X Refusal} (Ok x) (Ok y) → x ≡ y
ok_is x y h = cc

-- where two steps came to an end, each did
pub then_ok : {X Y : Type 0} (r : Result X Refusal) (next : X → Result Y Refusal) (y : Y) → then r next ≡ Ok y → (x : X) × (r ≡ Ok x) × (next x ≡ Ok y)
then_ok (Ok x) next y h = (x, refl, h)
then_ok (Err e) next y h = err-ok e y h

pub cond_ok : {X : Type 0} (b : Bool) (e : Refusal) (r : Result X Refusal) (x : X) → cond b (Err e) r ≡ Ok x → (b ≡ false) × (r ≡ Ok x)
cond_ok true e r x h = err-ok e x h
cond_ok false e r x h = (refl, h)

-- the ranges of a site's rows
abbrev pub rows_ranges : ℕ → ℕ → List SiteRow → List InlineRange
rows_ranges depth inlinee rows = filter_map (range_of depth inlinee) rows

with_range_is : (m k : ℕ) (before : List InlineRange) (o : Option InlineRange) (after : List InlineRange) → with_range m k before o ≡ Ok after → after ≡ before ++ cons_option o []
with_range_is m k before None after h = sym (ok_is before after h) ∙ sym (append-nil before)
with_range_is m k before (Some r) after h = go (range_refusal m k before r) h
  where
    go : (e : Option Refusal) → unless_refused (before ++ r ∷ []) e ≡ Ok after → after ≡ before ++ r ∷ []
    go None h = sym (ok_is (before ++ r ∷ []) after h)
    go (Some e) h = err-ok e after h

pub with_rows_is : (m k depth inlinee : ℕ) (before : List InlineRange) (rows : List SiteRow) (after : List InlineRange) → with_rows m k depth inlinee before rows ≡ Ok after → after ≡ before ++ rows_ranges depth inlinee rows
with_rows_is m k depth inlinee before [] after h = sym (ok_is before after h) ∙ sym (append-nil before)
with_rows_is m k depth inlinee before (row ∷ rows) after h =
    let t = then_ok (with_range m k before (range_of depth inlinee row)) (λ rs. with_rows m k depth inlinee rs rows) after h in
    with_rows_is m k depth inlinee t.0 rows after t.2 ∙
    ap (λ rs. rs ++ rows_ranges depth inlinee rows) (with_range_is m k before (range_of depth inlinee row) t.0 t.1) ∙
    append_assoc before (cons_option (range_of depth inlinee row) []) (rows_ranges depth inlinee rows) ∙
    ap (λ rs. before ++ rs) (joined (range_of depth inlinee row))
  where
    joined : (o : Option InlineRange) → cons_option o [] ++ rows_ranges depth inlinee rows ≡ cons_option o (rows_ranges depth inlinee rows)
    joined None = refl
    joined (Some r) = refl

-- what the rows of a site cover
rows_covered_one : (e place depth inlinee : ℕ) (row : SiteRow) (rs : List InlineRange) → covered e place (cons_option (range_of depth inlinee row) rs) ≡ ((eqb depth e && keeps place row) || covered e place rs)
rows_covered_one e place depth inlinee row rs =
    elim row.length as (λ l. covered e place (cons_option (elim l [
      | None ↦ None
      | Some n ↦ cond (eqb n 0) None (Some (record { depth = depth; start = row.offset; end = row.offset + n; inlinee = inlinee; file = Some row.file; line = Some row.line }))
    ]) rs) ≡ ((eqb depth e && (elim l [ None ↦ false | Some n ↦ not (eqb n 0) && inside row.offset (row.offset + n) place ])) || covered e place rs)) [
      | None ↦ ap (λ b. b || covered e place rs) (sym (and_false (eqb depth e)))
      | Some n ↦ elim (eqb n 0) as (λ z. covered e place (cons_option (cond z None (Some (record { depth = depth; start = row.offset; end = row.offset + n; inlinee = inlinee; file = Some row.file; line = Some row.line }))) rs) ≡ ((eqb depth e && (not z && inside row.offset (row.offset + n) place)) || covered e place rs)) [
        | true ↦ ap (λ b. b || covered e place rs) (sym (and_false (eqb depth e)))
        | false ↦ refl
      ]
    ]
  where
    and_false : (b : Bool) → (b && false) ≡ false
    and_false true = refl
    and_false false = refl

and_over : (a b c : Bool) → ((a && b) || (a && c)) ≡ (a && (b || c))
and_over true b c = refl
and_over false b c = refl

and_none : (a : Bool) → false ≡ (a && false)
and_none true = refl
and_none false = refl

pub rows_covered : (e place depth inlinee : ℕ) (rows : List SiteRow) → covered e place (rows_ranges depth inlinee rows) ≡ (eqb depth e && list_any (keeps place) rows)
rows_covered e place depth inlinee [] = and_none (eqb depth e)
rows_covered e place depth inlinee (row ∷ rows) =
    rows_covered_one e place depth inlinee row (rows_ranges depth inlinee rows) ∙
    ap (λ b. (eqb depth e && keeps place row) || b) (rows_covered e place depth inlinee rows) ∙
    and_over (eqb depth e) (keeps place row) (list_any (keeps place) rows)

added_covered : (e place depth : ℕ) (s : OpenSite) (ts : List Stretch) → covered e place (map (added_range depth s) ts) ≡ (eqb depth e && within place ts)
added_covered e place depth s [] = and_none (eqb depth e)
added_covered e place depth s (t ∷ ts) =
    ap (λ b. (eqb depth e && inside t.from t.upto place) || b) (added_covered e place depth s ts) ∙
    and_over (eqb depth e) (inside t.from t.upto place) (within place ts)

pub covered-append : (e place : ℕ) (xs ys : List InlineRange) → covered e place (xs ++ ys) ≡ (covered e place xs || covered e place ys)
covered-append e place xs ys = list_any-append (over e place) xs ys

-- no covered place is past the furthest end
covered_furthest : (e place n : ℕ) (rs : List InlineRange) → (n ≤ fold (λ k r. max k r.end) n rs) × (covered e place rs ≡ true → place < fold (λ k r. max k r.end) n rs)
covered_furthest e place n [] = (omega arith, λ h. absurd cc)
covered_furthest e place n (r ∷ rs) =
    let ih = covered_furthest e place (max n r.end) rs in
    let low = ih.0 in (
      omega arith,
      λ h. ⊎_elim
          (λ o. let p = and_parts (leb r.start place) (ltb place r.end) (and_parts (eqb r.depth e) (inside r.start r.end place) o).1 in let q = ltb-true place r.end p.1 in omega arith)
          ih.1
          (or_cases (over e place r) (covered e place rs) h),
    )

-- what the ranges that complete a site cover, beside what was written since it opened
completing : (a u v k : Bool) → (v ≡ true → k ≡ true) → (u || (a && (k && (v && not u)))) ≡ (u || (a && v))
completing a true v k h = refl
completing false false v k h = refl
completing true false true k h = ap (λ b. b && true) (h refl)
completing true false false true h = refl
completing true false false false h = refl

abbrev pub completion : ℕ → OpenSite → List InlineRange → List InlineRange
completion depth s rs = map (added_range depth s) (uncovered depth rs)

pub completion_covered : (e place depth : ℕ) (s : OpenSite) (rs : List InlineRange) → covered e place (rs ++ completion depth s rs) ≡ (covered e place rs || (eqb depth e && covered (depth + 1) place rs))
completion_covered e place depth s rs =
    let test = λ (n : ℕ). covered (depth + 1) n rs && not (covered depth n rs) in
    covered-append e place rs (completion depth s rs) ∙
    ap (λ b. covered e place rs || b) (added_covered e place depth s (uncovered depth rs) ∙ ap (λ b. eqb depth e && b) ((longest test (furthest rs)).1 place)) ∙
    ⊎_elim
    (λ h.
    ap (λ n. covered e place rs || (eqb depth e && (ltb place (furthest rs) && (covered (depth + 1) place rs && not (covered n place rs))))) (eqb-true depth e h) ∙
    completing (eqb depth e) (covered e place rs) (covered (depth + 1) place rs) (ltb place (furthest rs)) (λ c. lt-ltb place (furthest rs) ((covered_furthest (depth + 1) place 0 rs).1 c)))
    (λ h. ap (λ b. covered e place rs || b) (and_left _ _ h ∙ sym (and_left _ _ h)))
    (cases_Bool (eqb depth e))

-- a walk with these sites open and these ranges
abbrev pub walking : List OpenSite → List InlineRange → Walked
walking sites ranges = record { sites = sites; ranges = ranges }

module _ (m : ℕ) (rows : Site → List SiteRow) where
  -- what an opened site comes to
  pub record Opening (s : Site) (w v : Walked) : Type 0 where
    pub few : length w.sites < 32
    pub sites : v.sites ≡ record { inlinee = s.inlinee; end = s.end; file = file_of (rows s); from = length w.ranges } ∷ w.sites
    pub ranges : v.ranges ≡ w.ranges ++ rows_ranges (length w.sites) s.inlinee (rows s)

  pub opening : (s : Site) (w v : Walked) → opened m rows s w ≡ Ok v → Opening s w v
  opening s w v h =
      let c = cond_ok (leb most_open (length w.sites)) _ _ v h in
      let t = then_ok (with_rows m s.item (length w.sites) s.inlinee w.ranges (rows s)) _ v c.1 in
      let e = ok_is _ v t.2 in
      record {
        few = leb-false most_open (length w.sites) c.0;
        sites = ap (λ x. x.sites) (sym e);
        ranges = ap (λ x. x.ranges) (sym e) ∙ with_rows_is m s.item (length w.sites) s.inlinee w.ranges (rows s) t.0 t.1;
      }

-- what a closed site comes to
pub closing : (m : ℕ) (s : OpenSite) (sites : List OpenSite) (rs : List InlineRange) (v : Walked) → closed m (walking (s ∷ sites) rs) ≡ Ok v → v ≡ walking sites (rs ++ completion (length sites) s (since s rs))
closing m s sites rs v h =
    let t = then_ok (fitting m (completed (length sites) s rs)) (λ zs. Ok (walking sites zs)) v h in
    let c = cond_ok _ _ _ t.0 t.1 in
    sym (ok_is _ v t.2) ∙ ap (walking sites) (sym (ok_is _ t.0 c.1))
