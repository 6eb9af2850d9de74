-- One item more of a list that is asked by number. Assumes nothing.
use Rattle.std.proofs.Common.{◌≡◌, ℕ, zero, suc, ◌+◌, ◌<◌, Bool, cond, List, [], ◌∷◌, ◌++◌, length, take, drop, Some, None, filter, Option, sym, refl, ap, ◌∙◌, add-one, arith, Ok, Err, Result}
use Rattle.std.specs.List.{slice_get}
use Rattle.std.proofs.lemmas.List.Elements.{filter-append}
use Rattle.base.specs.declared.image.FaultCode.{FaultCode}
use Rattle.base.specs.Lists.{Ending, clean}
use Rattle.base.specs.Refusals.{or_refusal}
use Rattle.base.specs.declared.refusal.FaultyList.{FaultyList}
use Rattle.base.specs.declared.refusal.Refusal.{Refusal}
use Rattle.image.specs.Image.{entry}
use Rattle.building.specs.Starts.{or_else}
use Rattle.building.specs.Outcome.{first_refusal, fault}

some_is : {Y : Type 0} {a b : Y} → Some a ≡ Some b → a ≡ b
some_is p = cc

none-some : {Y : Type 0} {a : Y} → None ≡ Some a → ⊥
none-some p = let z : ◌≡◌ {A = ℕ} 0 1 = cc in omega arith

module _ {X : Type 0} where
  suc_drop : (xs : List X) (k : ℕ) (x : X) → slice_get xs k ≡ Some x → drop k xs ≡ x ∷ drop (suc k) xs
  suc_drop [] k x e = absurd (none-some e)
  suc_drop (y ∷ ys) zero x e = ap (λ v. v ∷ ys) (some_is e)
  suc_drop (y ∷ ys) (suc k) x e = suc_drop ys k x e

  suc_take : (xs : List X) (k : ℕ) (x : X) → slice_get xs k ≡ Some x → take (suc k) xs ≡ take k xs ++ x ∷ []
  suc_take [] k x e = absurd (none-some e)
  suc_take (y ∷ ys) zero x e = ap (λ v. v ∷ []) (some_is e)
  suc_take (y ∷ ys) (suc k) x e = ap (λ l. y ∷ l) (suc_take ys k x e)

  pub item_drop : (xs : List X) (k : ℕ) (x : X) → slice_get xs k ≡ Some x → drop k xs ≡ x ∷ drop (k + 1) xs
  item_drop xs k x e = rw add-one (suc_drop xs k x e)

  pub item_take : (xs : List X) (k : ℕ) (x : X) → slice_get xs k ≡ Some x → take (k + 1) xs ≡ take k xs ++ x ∷ []
  item_take xs k x e = rw add-one (suc_take xs k x e)

  pub item_within : (xs : List X) (k : ℕ) (x : X) → slice_get xs k ≡ Some x → k < length xs
  item_within [] k x e = absurd (none-some e)
  item_within (y ∷ ys) zero x e = omega arith
  item_within (y ∷ ys) (suc k) x e = let h = item_within ys k x e in omega arith

  pub end_drop : (xs : List X) (k : ℕ) → slice_get xs k ≡ None → drop k xs ≡ []
  end_drop [] zero e = refl
  end_drop [] (suc k) e = refl
  end_drop (y ∷ ys) zero e = absurd (none-some (sym e))
  end_drop (y ∷ ys) (suc k) e = end_drop ys k e

  pub end_take : (xs : List X) (k : ℕ) → slice_get xs k ≡ None → take k xs ≡ xs
  end_take [] zero e = refl
  end_take [] (suc k) e = refl
  end_take (y ∷ ys) zero e = absurd (none-some (sym e))
  end_take (y ∷ ys) (suc k) e = ap (λ l. y ∷ l) (end_take ys k e)

  -- what an answer tells of the list: the item there, or that it ends there, and how
  pub entry_item : (xs : List X) (end : Ending) (k : ℕ) (x : X) → entry xs end k ≡ Ok (Some x) → slice_get xs k ≡ Some x
  entry_item xs end k x = entry_cases xs end k (slice_get xs k) refl
    where
      entry_cases : (xs : List X) (end : Ending) (k : ℕ) (o : Option X) → slice_get xs k ≡ o → entry xs end k ≡ Ok (Some x) → o ≡ Some x
      entry_cases xs end k (Some y) p q = cc
      entry_cases xs (Ok u) k None p q = (let z : ◌≡◌ {A = ℕ} 0 1 = cc in absurd (omega arith))
      entry_cases xs (Err c) k None p q = (let z : ◌≡◌ {A = ℕ} 0 1 = cc in absurd (omega arith))

  pub entry_end : (xs : List X) (end : Ending) (k : ℕ) → entry xs end k ≡ Ok None → (slice_get xs k ≡ None) × (end ≡ clean)
  entry_end xs end k = entry_cases xs end k (slice_get xs k) refl
    where
      entry_cases : (xs : List X) (end : Ending) (k : ℕ) (o : Option X) → slice_get xs k ≡ o → entry xs end k ≡ Ok None → (o ≡ None) × (end ≡ clean)
      entry_cases xs end k (Some y) p q = (let z : ◌≡◌ {A = ℕ} 0 1 = cc in absurd (omega arith))
      entry_cases xs (Ok u) k None p q = (refl, refl)
      entry_cases xs (Err c) k None p q = (let z : ◌≡◌ {A = ℕ} 0 1 = cc in absurd (omega arith))

  pub entry_fault : (xs : List X) (end : Ending) (k : ℕ) (code : FaultCode) → entry xs end k ≡ Err code → (slice_get xs k ≡ None) × (end ≡ Err code)
  entry_fault xs end k code = entry_cases xs end k (slice_get xs k) refl
    where
      entry_cases : (xs : List X) (end : Ending) (k : ℕ) (o : Option X) → slice_get xs k ≡ o → entry xs end k ≡ Err code → (o ≡ None) × (end ≡ Err code)
      entry_cases xs end k (Some y) p q = (let z : ◌≡◌ {A = ℕ} 0 1 = cc in absurd (omega arith))
      entry_cases xs (Ok u) k None p q = (let z : ◌≡◌ {A = ℕ} 0 1 = cc in absurd (omega arith))
      entry_cases xs (Err c) k None p q = (refl, cc)

  -- the same where the fault is a refusal
  pub refused_item : (list : FaultyList) (xs : List X) (end : Ending) (k : ℕ) (x : X) → or_refusal list (entry xs end k) ≡ Ok (Some x) → slice_get xs k ≡ Some x
  refused_item list xs end k x e = entry_item xs end k x (given (entry xs end k) e)
    where
      given : (r : Result (Option X) FaultCode) → or_refusal list r ≡ Ok (Some x) → r ≡ Ok (Some x)
      given (Ok o) p = cc
      given (Err c) p = (let z : ◌≡◌ {A = ℕ} 0 1 = cc in absurd (omega arith))

  pub refused_end : (list : FaultyList) (xs : List X) (end : Ending) (k : ℕ) → or_refusal list (entry xs end k) ≡ Ok None → (slice_get xs k ≡ None) × (fault list end ≡ None)
  refused_end list xs end k e = let h = entry_end xs end k (given (entry xs end k) e) in (h.0, ap (fault list) h.1)
    where
      given : (r : Result (Option X) FaultCode) → or_refusal list r ≡ Ok None → r ≡ Ok None
      given (Ok o) p = cc
      given (Err c) p = (let z : ◌≡◌ {A = ℕ} 0 1 = cc in absurd (omega arith))

  pub refused_fault : (list : FaultyList) (xs : List X) (end : Ending) (k : ℕ) (e : Refusal) → or_refusal list (entry xs end k) ≡ Err e → (slice_get xs k ≡ None) × (fault list end ≡ Some e)
  refused_fault list xs end k e p = given (entry xs end k) refl p
    where
      given : (r : Result (Option X) FaultCode) → entry xs end k ≡ r → or_refusal list r ≡ Err e → (slice_get xs k ≡ None) × (fault list end ≡ Some e)
      given (Ok o) q p = (let z : ◌≡◌ {A = ℕ} 0 1 = cc in absurd (omega arith))
      given (Err c) q p = let h = entry_fault xs end k c q in (h.0, ap (fault list) h.1 ∙ cc)

  -- a filter, one item on
  pub kept_more : (p : X → Bool) (xs : List X) (k : ℕ) (x : X) → slice_get xs k ≡ Some x → filter p (take (k + 1) xs) ≡ filter p (take k xs) ++ cond (p x) (x ∷ []) []
  kept_more p xs k x e = ap (filter p) (item_take xs k x e) ∙ filter-append p (take k xs) (x ∷ [])

  -- what is left of a list of items that may be refused
  module _ (f : ℕ → X → Option Refusal) (xs : List X) (k : ℕ) where
    pub refused_here : (x : X) (e : Refusal) → slice_get xs k ≡ Some x → f k x ≡ Some e → first_refusal f k (drop k xs) ≡ Some e
    refused_here x e i h = ap (first_refusal f k) (item_drop xs k x i) ∙ ap (λ o. or_else o (first_refusal f (k + 1) (drop (k + 1) xs))) h

    pub refused_on : (x : X) → slice_get xs k ≡ Some x → f k x ≡ None → first_refusal f k (drop k xs) ≡ first_refusal f (k + 1) (drop (k + 1) xs)
    refused_on x i h = ap (first_refusal f k) (item_drop xs k x i) ∙ ap (λ o. or_else o (first_refusal f (k + 1) (drop (k + 1) xs))) h

    pub refused_none : slice_get xs k ≡ None → first_refusal f k (drop k xs) ≡ None
    refused_none i = ap (first_refusal f k) (end_drop xs k i)
