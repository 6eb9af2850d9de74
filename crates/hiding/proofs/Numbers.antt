-- One number more. Assumes nothing.
use Rattle.std.proofs.Common.{◌≡◌, ℕ, ◌+◌, ◌<◌, Bool, true, false, not, eqb, List, [], ◌∷◌, ◌++◌, length, take, set, sym, subst, arith}
use Rattle.std.proofs.lemmas.Bool.Decides.{nat_tests}
use Rattle.std.proofs.lemmas.List.{take_more_set}
use Rattle.std.proofs.lemmas.Bool.{and_parts, and_from}
use Rattle.order.specs.Rank.{every}
use Rattle.hiding.specs.Hidden.{among, apart}

every_push : (test : ℕ → Bool) (xs : List ℕ) (n : ℕ) → every test xs ≡ true → test n ≡ true → every test (xs ++ n ∷ []) ≡ true
every_push test [] n h t = and_from _ _ t h
every_push test (x ∷ xs) n h t = let p = and_parts _ _ h in and_from _ _ p.0 (every_push test xs n p.1 t)

apart_push : (xs : List ℕ) (n : ℕ) → apart xs ≡ true → among xs n ≡ false → apart (xs ++ n ∷ []) ≡ true
apart_push [] n h a = h
apart_push (x ∷ xs) n h a =
    let p = and_parts (every (λ y. not (eqb x y)) xs) (apart xs) h in
    let other : not (eqb x n) ≡ true = grind (arith, nat_tests) in
    let away : among xs n ≡ false = grind (arith, nat_tests) in
    and_from _ _ (every_push (λ y. not (eqb x y)) xs n p.0 other) (apart_push xs n p.1 away)

-- a new number in the first free place
pub one_more : (count : ℕ) (ns : List ℕ) (n : ℕ) → count < length ns → apart (take count ns) ≡ true → false ≡ among (take count ns) n → apart (take (count + 1) (set ns count n)) ≡ true
one_more count ns n l h a = subst (λ xs. apart xs ≡ true) (sym (take_more_set ns count n l)) (apart_push (take count ns) n h (sym a))
