-- The first of the greatest, and the choice with one item more. Assumes nothing.
use Rattle.std.proofs.Common.{◌≡◌, ℕ, ◌+◌, ◌<◌, Bool, true, false, cond, ◌||◌, eqb, ltb, List, [], ◌∷◌, ◌++◌, length, get_or, take, is_some, Some, None, Option, sym, refl, ap, ◌∙◌, subst, ⊎_elim, append-nil, arith}
use Rattle.std.specs.List.{AllByRecursion, filter, fold, list_any}
use Rattle.std.proofs.lemmas.Bool.{cases_Bool, cond-true, cond-false, ltb-true, ltb-false, le-ltb, eq-eqb, ne_eqb, both_ways}
use Rattle.std.proofs.lemmas.Grind.{fold-append}
use Rattle.std.proofs.lemmas.List.Elements.{filter_more}
use Rattle.order.specs.Rank.{first}
use Rattle.provider.specs.declared.symbols.LineRow.{LineRow}
use Rattle.frames.specs.declared.range.InlineRange.{InlineRange}
use Rattle.lookup.proofs.Choosing.{some_is, none_first}
use Rattle.inlining.specs.Choice.{greater, greatest, line_place, upto, line_of}
use Rattle.inlining.specs.Ranges.{over, covered, inlined, range_start}
use Rattle.inlining.specs.Laws.{FirstGreatest}

-- one item more
abbrev pub greater_yet : {X : Type 0} → (X → ℕ) → Option X → X → Option X
greater_yet key None x = Some x
greater_yet key (Some b) x = Some (greater key b x)

module _ {X : Type 0} (key : X → ℕ) where
  record Best (b : X) (xs : List X) : Type 0 where
    most : AllByRecursion (λ y. ltb (key b) (key y) ≡ false) xs
    foremost : first (λ y. eqb (key y) (key b)) xs ≡ Some b

  best_one : (a : X) → Best a (a ∷ [])
  best_one a = record { most = (le-ltb (key a) (key a) (omega arith), tt); foremost = cond-true _ _ _ (eq-eqb (key a) (key a) refl) }

  -- the new one is greater than the old, so the old one is not chosen
  best_taken : (a x b : X) (xs : List X) → ltb (key a) (key x) ≡ true → Best b (x ∷ xs) → Best b (a ∷ x ∷ xs)
  best_taken a x b xs h g =
      let m = ltb-true (key a) (key x) h in
      let n = ltb-false (key b) (key x) g.most.0 in
      record {
        most = (le-ltb (key b) (key a) (omega arith), g.most);
        foremost = cond-false _ _ _ (ne_eqb (key a) (key b) (λ e. omega arith)) ∙ g.foremost;
      }

  best_kept : (a x b : X) (xs : List X) → ltb (key a) (key x) ≡ false → Best b (a ∷ xs) → Best b (a ∷ x ∷ xs)
  best_kept a x b xs h g =
      let m = ltb-false (key a) (key x) h in
      let n = ltb-false (key b) (key a) g.most.0 in
      record {
        most = (g.most.0, (le-ltb (key b) (key x) (omega arith), g.most.1));
        foremost =
            ⊎_elim
            (λ e. cond-true _ _ _ e ∙ sym (cond-true _ _ _ e) ∙ g.foremost)
            (λ e.
            let d : (key a ≡ key b) → ⊥ = λ k. both_ways (eqb (key a) (key b)) e (eq-eqb (key a) (key b) k) in
            cond-false _ _ _ e ∙ cond-false _ _ _ (ne_eqb (key x) (key b) (λ k. d (omega arith))) ∙ sym (cond-false _ _ _ e) ∙ g.foremost)
            (cases_Bool (eqb (key a) (key b)));
      }

  best : (a : X) (xs : List X) → Best (fold (greater key) a xs) (a ∷ xs)
  best a [] = best_one a
  best a (x ∷ xs) =
      ⊎_elim
      (λ h. subst (λ c. Best (fold (greater key) c xs) (a ∷ x ∷ xs)) (sym (cond-true _ x a h)) (best_taken a x _ xs h (best x xs)))
      (λ h. subst (λ c. Best (fold (greater key) c xs) (a ∷ x ∷ xs)) (sym (cond-false _ x a h)) (best_kept a x _ xs h (best a xs)))
      (cases_Bool (ltb (key a) (key x)))

  -- the choice with one item more
  pub greatest_more : (xs : List X) (x : X) → greatest key (xs ++ x ∷ []) ≡ greater_yet key (greatest key xs) x
  greatest_more [] x = refl
  greatest_more (y ∷ xs) x = ap Some (fold-append (greater key) y xs (x ∷ []))

-- the law of the greatest: none is greater, and it is the first that is as great
pub first_greatest : {X : Type 0} (key : X → ℕ) (xs : List X) → FirstGreatest key xs
first_greatest key [] x e = absurd (cc)
first_greatest {X} key (a ∷ xs) x e =
    let b : Best key x (a ∷ xs) = subst (λ z. Best key z (a ∷ xs)) (some_is _ x e) (best key a xs) in
    (none_first (λ y. ltb (key x) (key y)) (a ∷ xs) b.most, b.foremost)

-- the choice from those that pass a test, with one item more
pub filtered_more : {X : Type 0} (key : X → ℕ) (test : X → Bool) (xs : List X) (k : ℕ) (d : X) → k < length xs →
    greatest key (filter test (take (k + 1) xs)) ≡ cond (test (get_or xs k d)) (greater_yet key (greatest key (filter test (take k xs))) (get_or xs k d)) (greatest key (filter test (take k xs)))
filtered_more key test xs k d l =
    let y = get_or xs k d in
    let zs = filter test (take k xs) in
    ap (greatest key) (filter_more test xs k d l) ∙
    ⊎_elim
    (λ h. ap (λ ys. greatest key (zs ++ ys)) (cond-true (test y) (y ∷ []) [] h) ∙ greatest_more key zs y ∙ sym (cond-true (test y) _ _ h))
    (λ h. ap (λ ys. greatest key (zs ++ ys)) (cond-false (test y) (y ∷ []) [] h) ∙ ap (greatest key) (append-nil zs) ∙ sym (cond-false (test y) _ _ h))
    (cases_Bool (test y))

pub line_of_more : (place : ℕ) (rows : List LineRow) (k : ℕ) (d : LineRow) → k < length rows →
    line_of place (take (k + 1) rows) ≡ cond (upto place (get_or rows k d)) (greater_yet line_place (line_of place (take k rows)) (get_or rows k d)) (line_of place (take k rows))
line_of_more place rows k d l = filtered_more line_place (upto place) rows k d l

pub inlined_more : (depth place : ℕ) (rs : List InlineRange) (k : ℕ) (d : InlineRange) → k < length rs →
    inlined depth place (take (k + 1) rs) ≡ cond (over depth place (get_or rs k d)) (greater_yet range_start (inlined depth place (take k rs)) (get_or rs k d)) (inlined depth place (take k rs))
inlined_more depth place rs k d l = filtered_more range_start (over depth place) rs k d l

-- there is a greatest one just if one passes
pub some_greatest : {X : Type 0} (key : X → ℕ) (test : X → Bool) (xs : List X) → is_some (greatest key (filter test xs)) ≡ list_any test xs
some_greatest key test [] = refl
some_greatest key test (x ∷ xs) =
    elim (test x) as (λ b. is_some (greatest key (cond b (x ∷ filter test xs) (filter test xs))) ≡ (b || list_any test xs)) [
      | true ↦ refl
      | false ↦ some_greatest key test xs
    ]

pub some_inlined : (depth place : ℕ) (rs : List InlineRange) → is_some (inlined depth place rs) ≡ covered depth place rs
some_inlined depth place rs = some_greatest range_start (over depth place) rs

none_from : {X : Type 0} (o : Option X) → is_some o ≡ false → o ≡ None
none_from None h = refl
none_from (Some x) h = absurd (both_ways true h refl)

pub none_inlined : (depth place : ℕ) (rs : List InlineRange) → covered depth place rs ≡ false → inlined depth place rs ≡ None
none_inlined depth place rs h = none_from (inlined depth place rs) (some_inlined depth place rs ∙ h)

pub uncovered_inlined : (depth place : ℕ) (rs : List InlineRange) → inlined depth place rs ≡ None → covered depth place rs ≡ false
uncovered_inlined depth place rs h = sym (some_inlined depth place rs) ∙ ap is_some h
