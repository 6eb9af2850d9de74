-- What one comparison tells of the rows on either side. Assumes nothing.
use Rattle.std.proofs.Common.{◌≡◌, ℕ, zero, suc, ◌<◌, ◌≤◌, true, false, not, List, [], ◌∷◌, length, get_or, drop, None, Ordering, Less, Equal, Greater, Bool, sym, refl, ap, ◌∙◌, subst, ⊎_elim, arith, drop-cons}
use Rattle.std.proofs.lemmas.List.{drop_all}
use Rattle.std.proofs.lemmas.Bool.{both_ways, cases_Bool, cases_lt, not-true, not_from_false, cond-true, cond-false}
use Rattle.std.specs.Ordering.{is_lt, is_eq, is_gt}
use Rattle.std.specs.List.Sorted.{IsPartitionedBy}
use Rattle.std.specs.Bool.{then_some}
use Rattle.order.specs.Rank.{before, same, Compared, InOrder, at}
use Rattle.order.specs.Placed.{Place}
use Rattle.order.proofs.Ranks.{before_irrefl, before_asym, same_eq, upto_before, before-upto, not_before, before_not_same}
use Rattle.order.proofs.Rows.{pairwise-at, pairwise_cons, pairwise_drop, same_flip}

pub not_less : (o : Ordering) (a b : List ℕ) → (o ≡ Less → ⊥) → Compared o a b → before a b ≡ false
not_less Less a b n h = absurd (n refl)
not_less Equal a b n h = let e = same_eq a b h in subst (λ c. before a c ≡ false) e (before_irrefl a)
not_less Greater a b n h = before_asym b a h

pub not_equal : (o : Ordering) (a b : List ℕ) → (o ≡ Equal → ⊥) → Compared o a b → same a b ≡ false
not_equal Less a b n h = before_not_same a b h
not_equal Equal a b n h = absurd (n refl)
not_equal Greater a b n h = same_flip b a (before_not_same b a h)

-- what a comparison's tests say of the ranks
pub less_before : (o : Ordering) (a b : List ℕ) → Compared o a b → is_lt o ≡ before a b
less_before Less a b h = sym h
less_before Equal a b h = sym (not_less Equal a b (λ e. cc) h)
less_before Greater a b h = sym (not_less Greater a b (λ e. cc) h)

pub equal_same : (o : Ordering) (a b : List ℕ) → Compared o a b → is_eq o ≡ same a b
equal_same Less a b h = sym (not_equal Less a b (λ e. cc) h)
equal_same Equal a b h = sym h
equal_same Greater a b h = sym (not_equal Greater a b (λ e. cc) h)

pub greater_after : (o : Ordering) (a b : List ℕ) → Compared o a b → is_gt o ≡ before b a
greater_after Less a b h = sym (before_asym a b h)
greater_after Equal a b h = let e = same_eq a b h in subst (λ c. false ≡ before c a) e (sym (before_irrefl a))
greater_after Greater a b h = sym h

-- rows in order fall into those before q and the others, and into those upto q and the others
module _ {X : Type 0} (rank : X → List ℕ) (xs : List X) (q : List ℕ) (ord : InOrder rank xs) where
  upto_later : (i j : ℕ) (d : X) → i < j → j < length xs → before (rank (get_or xs j d)) (rank (get_or xs i d)) ≡ false
  upto_later i j d l m = not-true _ (pairwise-at (λ x y. not (before (rank y) (rank x))) xs ord i j d l m)

  pub parted_before : IsPartitionedBy (λ y. before (rank y) q) xs
  parted_before i j d l m b =
      ⊎_elim
      (λ lt. upto_before (rank (get_or xs i d)) (rank (get_or xs j d)) q (upto_later i j d lt m) b)
      (λ ge. let e : j ≡ i = omega arith in subst (λ k. before (rank (get_or xs k d)) q ≡ true) e b)
      (cases_lt i j)

  pub parted_upto : IsPartitionedBy (λ y. not (before q (rank y))) xs
  parted_upto i j d l m b =
      ⊎_elim
      (λ lt. ⊎_elim
      (λ k. absurd (both_ways _ (not-true _ b) (before-upto q (rank (get_or xs i d)) (rank (get_or xs j d)) k (upto_later i j d lt m))))
      (λ k. not_from_false _ k)
      (cases_Bool (before q (rank (get_or xs i d)))))
      (λ ge. let e : j ≡ i = omega arith in subst (λ k. not (before q (rank (get_or xs k d))) ≡ true) e b)
      (cases_lt i j)

-- what stands at a rank stands at its place
module _ {X : Type 0} (rank : X → List ℕ) (q : List ℕ) where
  none_below : (p : ℕ) (xs : List X) → ((k : ℕ) (d : X) → k < p → before (rank (get_or xs k d)) q ≡ true) → at rank q xs ≡ at rank q (drop p xs)
  none_below zero xs b = refl
  none_below (suc p) [] b = refl
  none_below (suc p) (x ∷ xs) b =
      cond-false _ _ _ (before_not_same (rank x) q (b 0 x (omega arith))) ∙ none_below p xs (λ k d l. b (suc k) d (omega arith))

  after_none : (x : X) (xs : List X) → InOrder rank (x ∷ xs) → before (rank x) q ≡ false → same (rank x) q ≡ false → at rank q (x ∷ xs) ≡ None
  after_none x [] o b n = cond-false _ _ _ n
  after_none x (y ∷ ys) o b n =
      let p = pairwise_cons (λ x y. not (before (rank y) (rank x))) x (y ∷ ys) o in
      let up : before q (rank x) ≡ true = not_before (rank x) q b n in
      let over : before q (rank y) ≡ true = before-upto q (rank x) (rank y) up (not-true _ p.0.0) in
      cond-false _ _ _ n ∙ after_none y ys p.1 (before_asym q (rank y) over) (same_flip q (rank y) (before_not_same q (rank y) over))

module _ {X : Type 0} (rank : X → List ℕ) (xs : List X) (q : List ℕ) (p : ℕ) (ord : InOrder rank xs) (h : Place rank xs q p) where
  pub found_past : length xs ≤ p → at rank q xs ≡ None
  found_past l = none_below rank q p xs h.below ∙ ap (at rank q) (drop_all p xs l)

  pub found_here : (b : Bool) (x : X) → p < length xs → x ≡ get_or xs p x → b ≡ same (rank x) q → at rank q xs ≡ then_some b x
  found_here b x l e s =
      let o : drop p xs ≡ x ∷ drop (suc p) xs = drop-cons xs p x l ∙ ap (λ y. y ∷ drop (suc p) xs) (sym e) in
      let upto : before (rank x) q ≡ false = subst (λ y. before (rank y) q ≡ false) (sym e) (h.above p x (omega arith) l) in
      let rest = subst (InOrder rank) o (pairwise_drop (λ x y. not (before (rank y) (rank x))) p xs ord) in
      none_below rank q p xs h.below ∙ ap (at rank q) o ∙ (elim b as (λ b. b ≡ same (rank x) q → at rank q (x ∷ drop (suc p) xs) ≡ then_some b x) [
        | true ↦ λ s. cond-true _ _ _ (sym s)
        | false ↦ λ s. after_none rank q x (drop (suc p) xs) rest upto (sym s)
      ]) s
