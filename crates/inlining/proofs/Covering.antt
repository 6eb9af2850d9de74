-- A site that closes covers what was covered since it opened. Assumes nothing.
use Rattle.std.proofs.Common.{◌≡◌, ℕ, zero, suc, ◌+◌, ◌-◌, ◌≤◌, true, eqb, List, [], ◌∷◌, ◌++◌, length, take, drop, Ok, sym, refl, ap, ◌∙◌, subst, ⊎_elim, append_assoc, arith}
use Rattle.std.proofs.lemmas.Bool.{both_ways, or_cases, or_left, or_right, and_parts, and_from, and_left, eq-eqb, ne_eqb, cases_eq}
use Rattle.std.proofs.lemmas.List.{take_at, drop_at, take-append-le, drop-append-le, take-append-drop, length-append}
use Rattle.provider.specs.Modules.{Module}
use Rattle.provider.specs.declared.symbols.SiteRow.{SiteRow}
use Rattle.procedures.specs.declared.row.Procedure.{Procedure}
use Rattle.frames.specs.declared.range.InlineRange.{InlineRange}
use Rattle.frames.specs.declared.range.OpenSite.{OpenSite}
use Rattle.inlining.specs.Sites.{Site, Turn, opens, closes}
use Rattle.inlining.specs.Ranges.{covered, Walked, nothing_walked, since, closed, opened, turned, walked, rows_from}
use Rattle.inlining.specs.Laws.{Covers}
use Rattle.inlining.proofs.Walking.{ok_is, then_ok, rows_ranges, rows_covered, covered-append, completion, completion_covered, walking, opening, closing}

-- what is covered at some depth at or past d, and not just at d, is covered one depth out as well
abbrev pub Whole : ℕ → List InlineRange → Type 0
Whole d rs = (e place : ℕ) → d ≤ e → covered (e + 1) place rs ≡ true → covered e place rs ≡ true

-- what was written since a site opened is whole within it
abbrev pub Nested : List OpenSite → List InlineRange → Type 0
Nested [] rs = Whole 0 rs
Nested (s ∷ sites) rs = (s.from ≤ length rs) × Whole (length sites + 1) (since s rs) × Nested sites (take s.from rs)

pub whole-append : (d : ℕ) (xs ys : List InlineRange) → Whole d xs → Whole d ys → Whole d (xs ++ ys)
whole-append d xs ys h k e place l c =
    covered-append e place xs ys ∙
    ⊎_elim
    (λ u. or_left _ _ (h e place l u))
    (λ u. or_right _ _ (k e place l u))
    (or_cases (covered (e + 1) place xs) (covered (e + 1) place ys) (sym (covered-append (e + 1) place xs ys) ∙ c))

nested_more : (sites : List OpenSite) (xs ys : List InlineRange) → Nested sites xs → Whole (length sites) ys → Nested sites (xs ++ ys)
nested_more [] xs ys h k = whole-append 0 xs ys h k
nested_more (s ∷ sites) xs ys h k = (
  (let l = h.0 in let e = length-append xs ys in omega arith),
  subst (Whole (length sites + 1)) (sym (drop-append-le s.from xs ys h.0)) (whole-append (length sites + 1) (since s xs) ys h.1 (λ e place l c. k e place (omega arith) c)),
  subst (Nested sites) (sym (take-append-le s.from xs ys h.0)) h.2,
)

-- a whole list covers at d what it covers further in
pub whole_within : (d n place : ℕ) (rs : List InlineRange) → Whole d rs → covered (d + n) place rs ≡ true → covered d place rs ≡ true
whole_within d zero place rs h c = subst (λ e. covered e place rs ≡ true) (omega arith) c
whole_within d (suc n) place rs h c = whole_within d n place rs h (h (d + n) place (omega arith) (subst (λ e. covered e place rs ≡ true) (omega arith) c))

-- ranges of one depth are whole past it
whole_rows : (d inlinee : ℕ) (rows : List SiteRow) → Whole (d + 1) (rows_ranges d inlinee rows)
whole_rows d inlinee rows e place l c =
    absurd (both_ways (covered (e + 1) place (rows_ranges d inlinee rows)) (rows_covered (e + 1) place d inlinee rows ∙ and_left _ _ (ne_eqb d (e + 1) (λ k. omega arith))) c)

whole_completed : (d : ℕ) (s : OpenSite) (rs : List InlineRange) → Whole (d + 1) rs → Whole d (rs ++ completion d s rs)
whole_completed d s rs h e place l c =
    completion_covered e place d s rs ∙
    ⊎_elim
    (λ u.
    ⊎_elim
    (λ k. or_right _ _ (and_from _ _ (eq-eqb d e k) (subst (λ n. covered (n + 1) place rs ≡ true) (sym k) u)))
    (λ k. or_left _ _ (h e place (omega arith) u))
    (cases_eq d e))
    (λ u. absurd (both_ways (eqb d (e + 1)) (ne_eqb d (e + 1) (λ k. omega arith)) (and_parts _ _ u).0))
    (or_cases _ _ (sym (completion_covered (e + 1) place d s rs) ∙ c))

-- what was written before a site opened, and since, with the ranges that complete it
since_completed : (d : ℕ) (s : OpenSite) (rs : List InlineRange) → s.from ≤ length rs → since s (rs ++ completion d s (since s rs)) ≡ since s rs ++ completion d s (since s rs)
since_completed d s rs l = drop-append-le s.from rs (completion d s (since s rs)) l

pub split_completed : (d : ℕ) (s : OpenSite) (rs : List InlineRange) → rs ++ completion d s (since s rs) ≡ take s.from rs ++ (since s rs ++ completion d s (since s rs))
split_completed d s rs = ap (λ xs. xs ++ completion d s (since s rs)) (sym (take-append-drop s.from rs)) ∙ append_assoc (take s.from rs) (since s rs) (completion d s (since s rs))

module _ (m : ℕ) (rows : Site → List SiteRow) where
  nested_opened : (s : Site) (w v : Walked) → Nested w.sites w.ranges → opened m rows s w ≡ Ok v → Nested v.sites v.ranges
  nested_opened s w v n h =
      let o = opening m rows s w v h in
      let d = length w.sites in
      let new = rows_ranges d s.inlinee (rows s) in
      subst (λ zs. Nested zs v.ranges) (sym o.sites)
      (subst (λ rs. (length w.ranges ≤ length rs) × Whole (d + 1) (drop (length w.ranges) rs) × Nested w.sites (take (length w.ranges) rs)) (sym o.ranges) (
        (let e = length-append w.ranges new in omega arith),
        subst (Whole (d + 1)) (sym (drop_at w.ranges new (length w.ranges) refl)) (whole_rows d s.inlinee (rows s)),
        subst (Nested w.sites) (sym (take_at w.ranges new (length w.ranges) refl)) n,
      ))

  nested_closed : (sites : List OpenSite) (rs : List InlineRange) (v : Walked) → Nested sites rs → closed m (walking sites rs) ≡ Ok v → Nested v.sites v.ranges
  nested_closed [] rs v n h = subst (λ (x : Walked). Nested x.sites x.ranges) (ok_is (walking [] rs) v h) n
  nested_closed (s ∷ sites) rs v n h =
      let d = length sites in
      subst (λ (x : Walked). Nested x.sites x.ranges) (sym (closing m s sites rs v h))
      (subst (Nested sites) (sym (split_completed d s rs))
      (nested_more sites (take s.from rs) (since s rs ++ completion d s (since s rs)) n.2 (whole_completed d s (since s rs) n.1)))

  nested_turned : (t : Turn) (w v : Walked) → Nested w.sites w.ranges → turned m rows t w ≡ Ok v → Nested v.sites v.ranges
  nested_turned (opens s) w v n h = nested_opened s w v n h
  nested_turned closes w v n h = nested_closed w.sites w.ranges v n h

  pub nested_walked : (w v : Walked) (ts : List Turn) → Nested w.sites w.ranges → walked m rows w ts ≡ Ok v → Nested v.sites v.ranges
  nested_walked w v [] n h = subst (λ (x : Walked). Nested x.sites x.ranges) (ok_is w v h) n
  nested_walked w v (t ∷ ts) n h =
      let x = then_ok (turned m rows t w) (λ u. walked m rows u ts) v h in
      nested_walked x.0 v ts (nested_turned t w x.0 n x.1) x.2

pub nested_nothing : Nested [] []
nested_nothing e place l c = c

-- the law of sites that close: each covers what was covered at any depth since it opened
pub covers : (m : ℕ) (x : Module) (p : Procedure) → Covers m x p
covers m x p before after w v s sites split walk here shut depth place deep c =
    let n : Nested (s ∷ sites) w.ranges = subst (λ zs. Nested zs w.ranges) here (nested_walked m (rows_from x p) nothing_walked w before nested_nothing walk) in
    let e = closing m s sites w.ranges v (subst (λ zs. closed m (walking zs w.ranges) ≡ Ok v) here shut) in
    let d = length sites in
    let r : since s v.ranges ≡ since s w.ranges ++ completion d s (since s w.ranges) = ap (λ (u : Walked). since s u.ranges) e ∙ since_completed d s w.ranges n.0 in
    let far : depth ≡ d + (depth - d) = omega arith in
    subst (λ rs. covered d place rs ≡ true) (sym r)
    (whole_within d (depth - d) place (since s w.ranges ++ completion d s (since s w.ranges)) (whole_completed d s (since s w.ranges) n.1)
    (subst (λ k. covered k place (since s w.ranges ++ completion d s (since s w.ranges)) ≡ true) far
    (subst (λ rs. covered depth place rs ≡ true) r c)))
