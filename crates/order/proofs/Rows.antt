-- Lists of rows in order, and what one more row does to them. Assumes nothing.
use Rattle.std.proofs.Common.{◌≡◌, ℕ, zero, suc, ◌+◌, ◌<◌, ◌≤◌, Bool, true, false, cond, not, List, [], ◌∷◌, ◌++◌, length, get_or, take, drop, is_some, Some, None, Option, sym, refl, ap, ◌∙◌, subst, ⊎_elim, arith}
use Rattle.std.proofs.lemmas.Bool.{both_ways, cases_Bool, cond-true, cond-false, not-true, not_from_false, and_parts, and_from}
use Rattle.std.proofs.Math.Nat.{zero-add, add-suc, add_left_comm}
use Rattle.std.proofs.Math.Numerals.{one-add}
use Rattle.std.proofs.ByRecursion.{All-get_or, All-weaker}
use Rattle.std.specs.List.{AllByRecursion}
use Rattle.order.specs.declared.Meeting.{Meeting}
use Rattle.order.specs.declared.Meeting.TheVariants.{Stays, GivesWay, Both}
use Rattle.order.specs.Rank.{before, same, every, pairwise, Pairwise, InOrder, Rises, at, tally}
use Rattle.order.specs.Placed.{met, placed}
use Rattle.order.proofs.Ranks.{before_irrefl, before_asym, same_refl, same_eq, before_not_same, not_before, upto_before, before-upto}

every_all : {X : Type 0} (test : X → Bool) (xs : List X) → every test xs ≡ true → AllByRecursion (λ y. test y ≡ true) xs
every_all test [] h = tt
every_all test (x ∷ xs) h = let p = and_parts (test x) (every test xs) h in (p.0, every_all test xs p.1)

all_every : {X : Type 0} (test : X → Bool) (xs : List X) → AllByRecursion (λ y. test y ≡ true) xs → every test xs ≡ true
all_every test [] h = refl
all_every test (x ∷ xs) h = and_from (test x) (every test xs) h.0 (all_every test xs h.1)

-- a list taken apart: its first row with each later one, and the later ones among themselves
pub pairwise_cons : {X : Type 0} (test : X → X → Bool) (x : X) (xs : List X) → Pairwise test (x ∷ xs) → AllByRecursion (λ y. test x y ≡ true) xs × Pairwise test xs
pairwise_cons test x xs h = let p = and_parts (every (test x) xs) (pairwise test xs) h in (every_all (test x) xs p.0, p.1)

pub pairwise_from : {X : Type 0} (test : X → X → Bool) (x : X) (xs : List X) → AllByRecursion (λ y. test x y ≡ true) xs → Pairwise test xs → Pairwise test (x ∷ xs)
pairwise_from test x xs a p = and_from (every (test x) xs) (pairwise test xs) (all_every (test x) xs a) p

pub pairwise-none : {X : Type 0} (test : X → X → Bool) → Pairwise test []
pairwise-none test = refl

-- a list with rows left out in front
pub pairwise_drop : {X : Type 0} (test : X → X → Bool) (n : ℕ) (xs : List X) → Pairwise test xs → Pairwise test (drop n xs)
pairwise_drop test zero xs h = h
pairwise_drop test (suc n) [] h = h
pairwise_drop test (suc n) (x ∷ xs) h = pairwise_drop test n xs (pairwise_cons test x xs h).1

-- by places
pub pairwise-at : {X : Type 0} (test : X → X → Bool) (xs : List X) → Pairwise test xs → (i j : ℕ) (d : X) → i < j → j < length xs → test (get_or xs i d) (get_or xs j d) ≡ true
pairwise-at test [] h i j d l m = absurd (omega arith)
pairwise-at test (x ∷ xs) h zero zero d l m = absurd (omega arith)
pairwise-at test (x ∷ xs) h zero (suc j) d l m = All-get_or (λ y. test x y ≡ true) xs j d (omega arith) (pairwise_cons test x xs h).0
pairwise-at test (x ∷ xs) h (suc i) zero d l m = absurd (omega arith)
pairwise-at test (x ∷ xs) h (suc i) (suc j) d l m = pairwise-at test xs (pairwise_cons test x xs h).1 i j d (omega arith) (omega arith)

pub same_flip : (a b : List ℕ) → same a b ≡ false → same b a ≡ false
same_flip a b h =
    ⊎_elim (λ k. let e = same_eq b a k in absurd (both_ways _ h (rw e (same_refl a)))) (λ k. k) (cases_Bool (same b a))

module _ {X : Type 0} (rank : X → List ℕ) (meets : X → X → Meeting) where
  -- the row that stands at r's rank in the end
  abbrev pub winner : Option X → X → X
  winner None r = r
  winner (Some x) r = elim (meets x r) [ Stays ↦ x | GivesWay ↦ r | Both ↦ r ]

  pub met_all : (P : X → Type 0) (m : Meeting) (x r : X) (xs : List X) → P x → P r → AllByRecursion P xs → AllByRecursion P (met m x r xs)
  met_all P Stays x r xs p q a = (p, a)
  met_all P GivesWay x r xs p q a = (q, a)
  met_all P Both x r xs p q a = (q, (p, a))

  -- what is placed was there before, or is the new row
  pub placed_all : (P : X → Type 0) (r : X) (xs : List X) → AllByRecursion P xs → P r → AllByRecursion P (placed rank meets r xs)
  placed_all P r [] a p = (p, tt)
  placed_all P r (x ∷ xs) a p =
      elim (before (rank x) (rank r)) as (λ b. AllByRecursion P (cond b (x ∷ placed rank meets r xs) (cond (same (rank x) (rank r)) (met (meets x r) x r xs) (r ∷ x ∷ xs)))) [
        | true ↦ (a.0, placed_all P r xs a.1 p)
        | false ↦ elim (same (rank x) (rank r)) as (λ s. AllByRecursion P (cond s (met (meets x r) x r xs) (r ∷ x ∷ xs))) [
          | true ↦ met_all P (meets x r) x r xs a.0 p a.1
          | false ↦ (p, a)
        ]
      ]

  -- where r goes, by how its rank stands to that of the first row
  pub by_place : {G : Type 0} (r x : X) (xs : List X) → (before (rank x) (rank r) ≡ true → placed rank meets r (x ∷ xs) ≡ x ∷ placed rank meets r xs → G) → (rank x ≡ rank r → placed rank meets r (x ∷ xs) ≡ met (meets x r) x r xs → G) → (before (rank r) (rank x) ≡ true → placed rank meets r (x ∷ xs) ≡ r ∷ x ∷ xs → G) → G
  by_place r x xs f g h =
      ⊎_elim
      (λ b. f b (cond-true _ _ _ b))
      (λ b. ⊎_elim (λ s. g (same_eq (rank x) (rank r) s) (cond-false _ _ _ b ∙ cond-true _ _ _ s)) (λ s. h (not_before (rank x) (rank r) b s) (cond-false _ _ _ b ∙ cond-false _ _ _ s)) (cases_Bool (same (rank x) (rank r))))
      (cases_Bool (before (rank x) (rank r)))

  abbrev Upto : X → X → Bool
  Upto x y = not (before (rank y) (rank x))

  abbrev Before : X → X → Bool
  Before x y = before (rank x) (rank y)

  -- rows after x are after r too, where r's rank is no greater
  upto_all : (r x : X) (xs : List X) → before (rank x) (rank r) ≡ false → AllByRecursion (λ y. Upto x y ≡ true) xs → AllByRecursion (λ y. Upto r y ≡ true) xs
  upto_all r x xs b a =
      All-weaker (λ y. Upto x y ≡ true) (λ y. Upto r y ≡ true)
      (λ y u. ⊎_elim (λ k. absurd (both_ways _ (not-true _ u) (before-upto (rank y) (rank r) (rank x) k b))) (λ k. not_from_false _ k) (cases_Bool (before (rank y) (rank r))))
      xs a

  before_all : (r x : X) (xs : List X) → before (rank x) (rank r) ≡ false → AllByRecursion (λ y. Before x y ≡ true) xs → AllByRecursion (λ y. Before r y ≡ true) xs
  before_all r x xs b a = All-weaker (λ y. Before x y ≡ true) (λ y. Before r y ≡ true) (λ y u. upto_before (rank r) (rank x) (rank y) b u) xs a

  not_before_self : (a b : List ℕ) → a ≡ b → before a b ≡ false
  not_before_self a b e = let i = before_irrefl a in rw (sym e) i

  pub in_order-placed : (r : X) (xs : List X) → InOrder rank xs → InOrder rank (placed rank meets r xs)
  in_order-placed r [] h = pairwise_from Upto r [] tt h
  in_order-placed r (x ∷ xs) h =
      let p = pairwise_cons Upto x xs h in
      by_place r x xs
      (λ b e. subst (InOrder rank) (sym e) (pairwise_from Upto x _ (placed_all (λ y. Upto x y ≡ true) r xs p.0 (not_from_false _ (before_asym (rank x) (rank r) b))) (in_order-placed r xs p.1)))
      (λ s e. subst (InOrder rank) (sym e) (
      let n = not_before_self (rank x) (rank r) s in
      let a = upto_all r x xs n p.0 in
      elim (meets x r) as (λ m. InOrder rank (met m x r xs)) [
        | Stays ↦ h
        | GivesWay ↦ pairwise_from Upto r xs a p.1
        | Both ↦ pairwise_from Upto r (x ∷ xs) (not_from_false _ n, a) h
      ]))
      (λ b e. subst (InOrder rank) (sym e) (
      let n = before_asym (rank r) (rank x) b in
      pairwise_from Upto r (x ∷ xs) (not_from_false _ n, upto_all r x xs n p.0) h))

  pub rises-placed : ((x r : X) → meets x r ≡ Both → ⊥) → (r : X) (xs : List X) → Rises rank xs → Rises rank (placed rank meets r xs)
  rises-placed one r [] h = pairwise_from Before r [] tt h
  rises-placed one r (x ∷ xs) h =
      let p = pairwise_cons Before x xs h in
      by_place r x xs
      (λ b e. subst (Rises rank) (sym e) (pairwise_from Before x _ (placed_all (λ y. Before x y ≡ true) r xs p.0 b) (rises-placed one r xs p.1)))
      (λ s e. subst (Rises rank) (sym e) (
      let a = before_all r x xs (not_before_self (rank x) (rank r) s) p.0 in
      (elim (meets x r) as (λ m. (m ≡ Both → ⊥) → Rises rank (met m x r xs)) [
        | Stays ↦ λ _. h
        | GivesWay ↦ λ _. pairwise_from Before r xs a p.1
        | Both ↦ λ no'. absurd (no' refl)
      ]) (one x r)))
      (λ b e. subst (Rises rank) (sym e) (pairwise_from Before r (x ∷ xs) (b, before_all r x xs (before_asym (rank r) (rank x) b) p.0) h))

  -- after r there is no row of r's rank
  pub at_none : (r : X) (xs : List X) → AllByRecursion (λ y. Before r y ≡ true) xs → at rank (rank r) xs ≡ None
  at_none r [] a = refl
  at_none r (y ∷ ys) a =
      let n : same (rank y) (rank r) ≡ false = same_flip (rank r) (rank y) (before_not_same (rank r) (rank y) a.0) in
      cond-false _ _ _ n ∙ at_none r ys a.1

  -- at another rank than r's nothing changes
  pub at-placed_away : (q : List ℕ) (r : X) (xs : List X) → same (rank r) q ≡ false → at rank q (placed rank meets r xs) ≡ at rank q xs
  at-placed_away q r [] n = cond-false _ _ _ n
  at-placed_away q r (x ∷ xs) n =
      by_place r x xs
      (λ b e. ap (at rank q) e ∙ ap (cond (same (rank x) q) (Some x)) (at-placed_away q r xs n))
      (λ s e. ap (at rank q) e ∙ (
      let m : same (rank x) q ≡ false = rw s n in
      elim (meets x r) as (λ k. at rank q (met k x r xs) ≡ at rank q (x ∷ xs)) [
        | Stays ↦ refl
        | GivesWay ↦ cond-false _ _ _ n ∙ sym (cond-false _ _ _ m)
        | Both ↦ cond-false _ _ _ n
      ]))
      (λ b e. ap (at rank q) e ∙ cond-false _ _ _ n)

  -- at r's rank stands r, or the row that it met and that stays
  pub at-placed_here : (r : X) (xs : List X) → Rises rank xs → at rank (rank r) (placed rank meets r xs) ≡ Some (winner (at rank (rank r) xs) r)
  at-placed_here r [] h = cond-true _ _ _ (same_refl (rank r))
  at-placed_here r (x ∷ xs) h =
      let p = pairwise_cons Before x xs h in
      by_place r x xs
      (λ b e.
      let n : same (rank x) (rank r) ≡ false = before_not_same (rank x) (rank r) b in
      ap (at rank (rank r)) e ∙ cond-false _ _ _ n ∙ at-placed_here r xs p.1 ∙ ap (λ o. Some (winner o r)) (sym (cond-false _ _ _ n)))
      (λ s e.
      let m : same (rank x) (rank r) ≡ true = rw s (same_refl (rank r)) in
      let here : at rank (rank r) (x ∷ xs) ≡ Some x = cond-true _ _ _ m in
      ap (at rank (rank r)) e ∙ (
      elim (meets x r) as (λ k. at rank (rank r) (met k x r xs) ≡ Some (elim k [ Stays ↦ x | GivesWay ↦ r | Both ↦ r ])) [
        | Stays ↦ here
        | GivesWay ↦ cond-true _ _ _ (same_refl (rank r))
        | Both ↦ cond-true _ _ _ (same_refl (rank r))
      ]) ∙ ap (λ o. Some (winner o r)) (sym here))
      (λ b e.
      let a : AllByRecursion (λ y. Before r y ≡ true) (x ∷ xs) = (b, before_all r x xs (before_asym (rank r) (rank x) b) p.0) in
      ap (at rank (rank r)) e ∙ cond-true _ _ _ (same_refl (rank r)) ∙ ap (λ o. Some (winner o r)) (sym (at_none r (x ∷ xs) a)))

  -- one row more where r's rank is new, and else none
  pub length-placed : ((x r : X) → meets x r ≡ Both → ⊥) → (r : X) (xs : List X) → Rises rank xs → length (placed rank meets r xs) ≡ cond (is_some (at rank (rank r) xs)) 0 1 + length xs
  length-placed one r [] h = refl
  length-placed one r (x ∷ xs) h =
      let p = pairwise_cons Before x xs h in
      by_place r x xs
      (λ b e.
      let n : same (rank x) (rank r) ≡ false = before_not_same (rank x) (rank r) b in
      let back : at rank (rank r) (x ∷ xs) ≡ at rank (rank r) xs = cond-false _ _ _ n in
      let ih = length-placed one r xs p.1 in
      let f : length (placed rank meets r (x ∷ xs)) ≡ suc (length (placed rank meets r xs)) = ap length e in
      f ∙ ap suc ih ∙ sym (add-suc _ _) ∙ ap (λ o. cond (is_some o) 0 1 + suc (length xs)) (sym back))
      (λ s e.
      let m : same (rank x) (rank r) ≡ true = rw s (same_refl (rank r)) in
      let here : at rank (rank r) (x ∷ xs) ≡ Some x = cond-true _ _ _ m in
      ap length e ∙ (
      (elim (meets x r) as (λ k. (k ≡ Both → ⊥) → length (met k x r xs) ≡ suc (length xs)) [
        | Stays ↦ λ _. refl
        | GivesWay ↦ λ _. refl
        | Both ↦ λ no'. absurd (no' refl)
      ]) (one x r)) ∙ sym (zero-add _) ∙ ap (λ o. cond (is_some o) 0 1 + suc (length xs)) (sym here))
      (λ b e.
      let a : AllByRecursion (λ y. Before r y ≡ true) (x ∷ xs) = (b, before_all r x xs (before_asym (rank r) (rank x) b) p.0) in
      ap length e ∙ sym (one-add _) ∙ ap (λ o. cond (is_some o) 0 1 + suc (length xs)) (sym (at_none r (x ∷ xs) a)))

  -- where equals all stand, there is always one row more
  pub length-placed_both : ((x r : X) → meets x r ≡ Both) → (r : X) (xs : List X) → length (placed rank meets r xs) ≡ suc (length xs)
  length-placed_both all r [] = refl
  length-placed_both all r (x ∷ xs) =
      by_place r x xs
      (λ b e. ap length e ∙ ap suc (length-placed_both all r xs))
      (λ s e. ap length e ∙ ap (λ k. length (met k x r xs)) (all x r))
      (λ b e. ap length e)

  pub tally-placed_both : ((x r : X) → meets x r ≡ Both) → (q : List ℕ) (r : X) (xs : List X) → tally rank q (placed rank meets r xs) ≡ tally rank q (r ∷ xs)
  tally-placed_both all q r [] = refl
  tally-placed_both all q r (x ∷ xs) =
      by_place r x xs
      (λ b e. ap (tally rank q) e ∙ ap (λ n. cond (same (rank x) q) 1 0 + n) (tally-placed_both all q r xs) ∙ add_left_comm _ _ _)
      (λ s e. ap (tally rank q) e ∙ ap (λ k. tally rank q (met k x r xs)) (all x r))
      (λ b e. ap (tally rank q) e)

  pub placed_split : (p : ℕ) (r : X) (xs : List X) → p ≤ length xs → ((k : ℕ) (d : X) → k < p → before (rank (get_or xs k d)) (rank r) ≡ true) → placed rank meets r xs ≡ take p xs ++ placed rank meets r (drop p xs)
  placed_split zero r xs l h = refl
  placed_split (suc p) r [] l h = absurd (omega arith)
  placed_split (suc p) r (x ∷ xs) l h =
      cond-true _ _ _ (h 0 x (omega arith)) ∙ ap (λ ys. x ∷ ys) (placed_split p r xs (omega arith) (λ k d m. h (suc k) d (omega arith)))

  -- no row is lost
  pub length-placed_least : (r : X) (xs : List X) → length xs ≤ length (placed rank meets r xs)
  length-placed_least r [] = omega arith
  length-placed_least r (x ∷ xs) =
      by_place r x xs
      (λ b e. let l = length-placed_least r xs in let f : length (placed rank meets r (x ∷ xs)) ≡ suc (length (placed rank meets r xs)) = ap length e in omega arith)
      (λ s e.
      let f : length (placed rank meets r (x ∷ xs)) ≡ length (met (meets x r) x r xs) = ap length e in
      let g : suc (length xs) ≤ length (met (meets x r) x r xs) = elim (meets x r) as (λ m. suc (length xs) ≤ length (met m x r xs)) [ Stays ↦ omega arith | GivesWay ↦ omega arith | Both ↦ omega arith ] in
      omega arith)
      (λ b e. let f : length (placed rank meets r (x ∷ xs)) ≡ suc (suc (length xs)) = ap length e in omega arith)

pub in_order_from_rises : {X : Type 0} (rank : X → List ℕ) (xs : List X) → Rises rank xs → InOrder rank xs
in_order_from_rises rank [] h = refl
in_order_from_rises rank (x ∷ xs) h =
    let p = pairwise_cons (λ a b. before (rank a) (rank b)) x xs h in
    pairwise_from (λ a b. not (before (rank b) (rank a))) x xs
    (All-weaker (λ y. before (rank x) (rank y) ≡ true) (λ y. not (before (rank y) (rank x)) ≡ true) (λ y u. not_from_false _ (before_asym (rank x) (rank y) u)) xs p.0)
    (in_order_from_rises rank xs p.1)
