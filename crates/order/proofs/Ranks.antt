-- The order of ranks is total. Assumes nothing.
use Rattle.std.proofs.Common.{◌≡◌, ℕ, true, false, ◌⊎◌, List, [], ◌∷◌, Ordering, Less, Equal, Greater, refl, inl, inr, ⊎_elim, arith}
use Rattle.std.proofs.lemmas.Bool.Decides.{nat_tests}
use Rattle.std.proofs.lemmas.Bool.{and_parts, eqb-true, both_ways, cases_Bool}
use Rattle.std.specs.Ordering.{ordering_then}
use Rattle.order.specs.Rank.{before, same, Compared}

pub before_trans : (a b c : List ℕ) → before a b ≡ true → before b c ≡ true → before a c ≡ true
before_trans [] [] c h k = absurd (both_ways false refl h)
before_trans [] (y ∷ ys) [] h k = absurd (both_ways false refl k)
before_trans [] (y ∷ ys) (z ∷ zs) h k = refl
before_trans (x ∷ xs) [] c h k = absurd (both_ways false refl h)
before_trans (x ∷ xs) (y ∷ ys) [] h k = absurd (both_ways false refl k)
before_trans (x ∷ xs) (y ∷ ys) (z ∷ zs) h k = let ih = before_trans xs ys zs in grind (arith, nat_tests)

pub before_irrefl : (a : List ℕ) → before a a ≡ false
before_irrefl [] = refl
before_irrefl (x ∷ xs) = let ih = before_irrefl xs in grind (arith, nat_tests)

pub same_refl : (a : List ℕ) → same a a ≡ true
same_refl [] = refl
same_refl (x ∷ xs) = let ih = same_refl xs in grind (arith, nat_tests)

pub same_eq : (a b : List ℕ) → same a b ≡ true → a ≡ b
same_eq [] [] h = refl
same_eq [] (y ∷ ys) h = absurd (both_ways false refl h)
same_eq (x ∷ xs) [] h = absurd (both_ways false refl h)
same_eq (x ∷ xs) (y ∷ ys) h = let p = and_parts _ _ h in let e = eqb-true x y p.0 in let f = same_eq xs ys p.1 in cc

-- of two ranks one comes first, or they are the same
pub cases_rank : (a b : List ℕ) → (before a b ≡ true) ⊎ ((same a b ≡ true) ⊎ (before b a ≡ true))
cases_rank [] [] = inr (inl refl)
cases_rank [] (y ∷ ys) = inl refl
cases_rank (x ∷ xs) [] = inr (inr refl)
cases_rank (x ∷ xs) (y ∷ ys) = let ih = cases_rank xs ys in grind (arith, nat_tests)

pub before_not_same : (a b : List ℕ) → before a b ≡ true → same a b ≡ false
before_not_same [] [] h = absurd (both_ways false refl h)
before_not_same [] (y ∷ ys) h = refl
before_not_same (x ∷ xs) [] h = refl
before_not_same (x ∷ xs) (y ∷ ys) h = let ih = before_not_same xs ys in grind (arith, nat_tests)

pub before_asym : (a b : List ℕ) → before a b ≡ true → before b a ≡ false
before_asym a b h =
    ⊎_elim (λ k. absurd (both_ways _ (before_irrefl a) (before_trans a b a h k))) (λ k. k) (cases_Bool (before b a))

pub not_before : (a b : List ℕ) → before a b ≡ false → same a b ≡ false → before b a ≡ true
not_before a b h k =
    ⊎_elim (λ l. absurd (both_ways _ h l)) (⊎_elim (λ l. absurd (both_ways _ k l)) (λ l. l)) (cases_rank a b)

-- a is not after b, and b comes before c
pub upto_before : (a b c : List ℕ) → before b a ≡ false → before b c ≡ true → before a c ≡ true
upto_before a b c h k =
    ⊎_elim (λ l. before_trans a b c l k)
    (⊎_elim (λ l. let e = same_eq a b l in rw e k) (λ l. absurd (both_ways _ h l)))
    (cases_rank a b)

-- a comes before b, and c does not come before b
pub before-upto : (a b c : List ℕ) → before a b ≡ true → before c b ≡ false → before a c ≡ true
before-upto a b c h k =
    ⊎_elim (λ l. l)
    (⊎_elim (λ l. let e = same_eq a c l in absurd (both_ways _ k (rw e at h))) (λ l. absurd (both_ways _ k (before_trans c a b l h))))
    (cases_rank a c)

-- ranks are compared from the front: what comes after two numbers decides where these are the same
pub compared_pairs : (a b c d : ℕ) (xs ys : List ℕ) (o p : Ordering) → Compared o (a ∷ b ∷ []) (c ∷ d ∷ []) → Compared p xs ys → Compared (ordering_then o p) (a ∷ b ∷ xs) (c ∷ d ∷ ys)
compared_pairs a b c d xs ys Less p h k = grind (arith, nat_tests)
compared_pairs a b c d xs ys Equal Less h k = grind (arith, nat_tests)
compared_pairs a b c d xs ys Equal Equal h k = grind (arith, nat_tests)
compared_pairs a b c d xs ys Equal Greater h k = grind (arith, nat_tests)
compared_pairs a b c d xs ys Greater p h k = grind (arith, nat_tests)
