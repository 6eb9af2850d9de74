-- The last and the first row that pass a test, and the procedure that is chosen for a place. Assumes nothing.
use Rattle.std.proofs.Common.{◌≡◌, ℕ, zero, suc, ◌<◌, Bool, true, false, cond, ◌&&◌, ◌⊎◌, List, [], ◌∷◌, ◌++◌, length, get_or, Some, None, Option, sym, refl, ap, ◌∙◌, subst, inl, inr, ⊎_elim, arith}
use Rattle.std.proofs.lemmas.Bool.{both_ways, cases_Bool, cond-true, cond-false, and_left, and_right}
use Rattle.std.proofs.ByRecursion.{All-weaker, all-has, all_from_every}
use Rattle.std.specs.List.{ContainsAt as Has, AllByRecursion}
use Rattle.order.specs.Rank.{before, Rises, later, first, last}
use Rattle.order.proofs.Ranks.{before_irrefl, before_asym}
use Rattle.order.proofs.Rows.{pairwise_cons}
use Rattle.base.specs.declared.image.SectionOffset.{SectionOffset}
use Rattle.building.specs.Starts.{or_else}
use Rattle.procedures.specs.Rows.{procedure_rank}
use Rattle.procedures.specs.declared.row.Procedure.{Procedure}
use Rattle.lookup.specs.Finding.{covers}
use Rattle.lookup.specs.Laws.{StartsLast}

pub some_is : {Y : Type 0} (a b : Y) → Some a ≡ Some b → a ≡ b
some_is a b p = cc

pub none-some : {Y : Type 0} (a : Y) → None ≡ Some a → ⊥
none-some a p = let z : ◌≡◌ {A = ℕ} 0 1 = cc in omega arith

pub later-none : {X : Type 0} (o : Option X) → later o None ≡ o
later-none None = refl
later-none (Some x) = refl

later_assoc : {X : Type 0} (a b c : Option X) → later (later a b) c ≡ later a (later b c)
later_assoc None b c = refl
later_assoc (Some x) b c = refl

module _ {X : Type 0} (t : X → Bool) where
  -- the last row that passes is among the later ones, or it is this one
  by_last : {G : Type 0} (y : X) (ys : List X) (x : X) → last t (y ∷ ys) ≡ Some x → (last t ys ≡ Some x → G) → (last t ys ≡ None → t y ≡ true → y ≡ x → G) → G
  by_last {G} y ys x h f g = go (last t ys) refl h
    where
      go : (o : Option X) → last t ys ≡ o → later o (cond (t y) (Some y) None) ≡ Some x → G
      go (Some z) e k = f (e ∙ k)
      go None e k =
          ⊎_elim
          (λ b. g e b (some_is y x (sym (cond-true (t y) (Some y) None b) ∙ k)))
          (λ b. absurd (none-some x (sym (cond-false (t y) (Some y) None b) ∙ k)))
          (cases_Bool (t y))

  by_first : {G : Type 0} (y : X) (ys : List X) (x : X) → first t (y ∷ ys) ≡ Some x → (t y ≡ true → y ≡ x → G) → (t y ≡ false → first t ys ≡ Some x → G) → G
  by_first y ys x h f g =
      ⊎_elim
      (λ b. f b (some_is y x (sym (cond-true (t y) (Some y) (first t ys) b) ∙ h)))
      (λ b. g b (sym (cond-false (t y) (Some y) (first t ys) b) ∙ h))
      (cases_Bool (t y))

  no_last : (y : X) (ys : List X) → last t (y ∷ ys) ≡ None → (t y ≡ false) × (last t ys ≡ None)
  no_last y ys h = go (last t ys) refl h
    where
      go : (o : Option X) → last t ys ≡ o → later o (cond (t y) (Some y) None) ≡ None → (t y ≡ false) × (last t ys ≡ None)
      go (Some z) e k = absurd (none-some z (sym k))
      go None e k =
          ⊎_elim
          (λ b. absurd (none-some y (sym k ∙ cond-true (t y) (Some y) None b)))
          (λ b. (b, e))
          (cases_Bool (t y))

  -- where none passes
  pub last_none : (xs : List X) → last t xs ≡ None → AllByRecursion (λ y. t y ≡ false) xs
  last_none [] h = tt
  last_none (y ∷ ys) h = let p = no_last y ys h in (p.0, last_none ys p.1)

  pub first-none : (xs : List X) → first t xs ≡ None → AllByRecursion (λ y. t y ≡ false) xs
  first-none [] h = tt
  first-none (y ∷ ys) h =
      ⊎_elim
      (λ b. absurd (none-some y (sym h ∙ cond-true (t y) (Some y) (first t ys) b)))
      (λ b. (b, first-none ys (sym (cond-false (t y) (Some y) (first t ys) b) ∙ h)))
      (cases_Bool (t y))

  pub none_last : (xs : List X) → AllByRecursion (λ y. t y ≡ false) xs → last t xs ≡ None
  none_last [] a = refl
  none_last (y ∷ ys) a = ap (λ o. later o (cond (t y) (Some y) None)) (none_last ys a.1) ∙ cond-false (t y) (Some y) None a.0

  pub none_first : (xs : List X) → AllByRecursion (λ y. t y ≡ false) xs → first t xs ≡ None
  none_first [] a = refl
  none_first (y ∷ ys) a = cond-false (t y) (Some y) (first t ys) a.0 ∙ none_first ys a.1

  pub last_passes : (xs : List X) (x : X) → last t xs ≡ Some x → t x ≡ true
  last_passes [] x h = absurd (none-some x h)
  last_passes (y ∷ ys) x h = by_last y ys x h (λ e. last_passes ys x e) (λ n b e. subst (λ v. t v ≡ true) e b)

  pub first_passes : (xs : List X) (x : X) → first t xs ≡ Some x → t x ≡ true
  first_passes [] x h = absurd (none-some x h)
  first_passes (y ∷ ys) x h = by_first y ys x h (λ b e. subst (λ v. t v ≡ true) e b) (λ b e. first_passes ys x e)

  pub last_member : (xs : List X) (x : X) → last t xs ≡ Some x → Has xs x
  last_member [] x h = absurd (none-some x h)
  last_member (y ∷ ys) x h =
      by_last y ys x h
      (λ e. let m = last_member ys x e in (suc m.0, omega arith, m.2))
      (λ n b e. (0, omega arith, λ d. e))

  pub first_member : (xs : List X) (x : X) → first t xs ≡ Some x → Has xs x
  first_member [] x h = absurd (none-some x h)
  first_member (y ∷ ys) x h =
      by_first y ys x h
      (λ b e. (0, omega arith, λ d. e))
      (λ b e. let m = first_member ys x e in (suc m.0, omega arith, m.2))

  pub last-append : (xs ys : List X) → last t (xs ++ ys) ≡ later (last t ys) (last t xs)
  last-append [] ys = sym (later-none (last t ys))
  last-append (x ∷ xs) ys =
      ap (λ o. later o (cond (t x) (Some x) None)) (last-append xs ys) ∙ later_assoc (last t ys) (last t xs) (cond (t x) (Some x) None)

  pub first-append : (xs ys : List X) → first t (xs ++ ys) ≡ or_else (first t xs) (first t ys)
  first-append [] ys = refl
  first-append (x ∷ xs) ys =
      elim (t x) as (λ b. cond b (Some x) (first t (xs ++ ys)) ≡ or_else (cond b (Some x) (first t xs)) (first t ys)) [
        | true ↦ refl
        | false ↦ first-append xs ys
      ]

  -- by places
  pub last_never : (xs : List X) → ((j : ℕ) (d : X) → j < length xs → t (get_or xs j d) ≡ false) → last t xs ≡ None
  last_never xs h = none_last xs (all_from_every (λ y. t y ≡ false) xs (λ j d _ l. h j d l))

  pub first_never : (xs : List X) → ((j : ℕ) (d : X) → j < length xs → t (get_or xs j d) ≡ false) → first t xs ≡ None
  first_never xs h = none_first xs (all_from_every (λ y. t y ≡ false) xs (λ j d _ l. h j d l))

  pub last-at : (xs : List X) (k : ℕ) (x : X) → k < length xs → x ≡ get_or xs k x → t x ≡ true → ((j : ℕ) (d : X) → k < j → j < length xs → t (get_or xs j d) ≡ false) → last t xs ≡ Some x
  last-at [] k x l e b h = absurd (omega arith)
  last-at (y ∷ ys) zero x l e b h =
      let n : last t ys ≡ None = last_never ys (λ j d m. h (suc j) d (omega arith) (omega arith)) in
      ap (λ o. later o (cond (t y) (Some y) None)) n ∙ cond-true (t y) (Some y) None (subst (λ v. t v ≡ true) e b) ∙ ap Some (sym e)
  last-at (y ∷ ys) (suc k) x l e b h =
      ap (λ o. later o (cond (t y) (Some y) None)) (last-at ys k x (omega arith) e b (λ j d m n. h (suc j) d (omega arith) (omega arith)))

  pub first-at : (xs : List X) (k : ℕ) (x : X) → k < length xs → x ≡ get_or xs k x → t x ≡ true → ((j : ℕ) (d : X) → j < k → t (get_or xs j d) ≡ false) → first t xs ≡ Some x
  first-at [] k x l e b h = absurd (omega arith)
  first-at (y ∷ ys) zero x l e b h = cond-true (t y) (Some y) (first t ys) (subst (λ v. t v ≡ true) e b) ∙ ap Some (sym e)
  first-at (y ∷ ys) (suc k) x l e b h =
      cond-false (t y) (Some y) (first t ys) (h 0 y (omega arith)) ∙ first-at ys k x (omega arith) e b (λ j d m. h (suc j) d (omega arith))

  -- of rising rows, every other that passes comes before the last, and after the first
  module _ (rank : X → List ℕ) where
    pub last_rising : (xs : List X) (x : X) → Rises rank xs → last t xs ≡ Some x → AllByRecursion (λ y. t y ≡ true → (y ≡ x) ⊎ (before (rank y) (rank x) ≡ true)) xs
    last_rising [] x r h = tt
    last_rising (y ∷ ys) x r h =
        let p = pairwise_cons (λ a b. before (rank a) (rank b)) y ys r in
        by_last y ys x h
        (λ e. (λ _. inr (all-has (λ z. before (rank y) (rank z) ≡ true) ys x p.0 (last_member ys x e)), last_rising ys x p.1 e))
        (λ n b e. (λ _. inl e, All-weaker (λ z. t z ≡ false) (λ z. t z ≡ true → (z ≡ x) ⊎ (before (rank z) (rank x) ≡ true)) (λ z f u. absurd (both_ways (t z) f u)) ys (last_none ys n)))

    pub first_rising : (xs : List X) (x : X) → Rises rank xs → first t xs ≡ Some x → AllByRecursion (λ y. t y ≡ true → (y ≡ x) ⊎ (before (rank x) (rank y) ≡ true)) xs
    first_rising [] x r h = tt
    first_rising (y ∷ ys) x r h =
        let p = pairwise_cons (λ a b. before (rank a) (rank b)) y ys r in
        by_first y ys x h
        (λ b e. (λ _. inl e, All-weaker (λ z. before (rank y) (rank z) ≡ true) (λ z. t z ≡ true → (z ≡ x) ⊎ (before (rank x) (rank z) ≡ true)) (λ z f u. inr (subst (λ v. before (rank v) (rank z) ≡ true) e f)) ys p.0))
        (λ b e. (λ u. absurd (both_ways (t y) b u), first_rising ys x p.1 e))

pub starts-last : (o : SectionOffset) (ps : List Procedure) → Rises procedure_rank ps → StartsLast o ps
starts-last o ps r p e = (
  last_passes (covers o) ps p e,
  none_first (λ x. covers o x && before (procedure_rank p) (procedure_rank x)) ps
      (All-weaker (λ y. covers o y ≡ true → (y ≡ p) ⊎ (before (procedure_rank y) (procedure_rank p) ≡ true)) (λ y. (covers o y && before (procedure_rank p) (procedure_rank y)) ≡ false)
      (λ y h.
      ⊎_elim
      (λ c.
      and_right (covers o y) (before (procedure_rank p) (procedure_rank y))
      (⊎_elim
      (λ s. subst (λ z. before (procedure_rank p) (procedure_rank z) ≡ false) (sym s) (before_irrefl (procedure_rank p)))
      (λ b. before_asym (procedure_rank y) (procedure_rank p) b)
      (h c)))
      (λ c. and_left (covers o y) (before (procedure_rank p) (procedure_rank y)) c)
      (cases_Bool (covers o y)))
      ps (last_rising (covers o) procedure_rank ps p r e)),
)
