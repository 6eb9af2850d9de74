-- Ranks, their order, and lists of rows in that order. Assumes nothing.
use Rattle.std.specs.Prelude.{◌≡◌, ℕ, ◌+◌, Bool, true, false, cond, not, ◌&&◌, List, [], ◌∷◌, Some, None, Option, ◌==◌, nat_le, nat_lt}
use Rattle.std.specs.declared.cmp.Ordering.{Ordering}
use Rattle.std.specs.Ordering.{MatchOrdering}

-- dictionary order
abbrev pub before : List ℕ → List ℕ → Bool
before [] [] = false
before [] (y ∷ ys) = true
before (x ∷ xs) [] = false
before (x ∷ xs) (y ∷ ys) = cond (nat_lt x y) true (cond (x == y) (before xs ys) false)

abbrev pub same : List ℕ → List ℕ → Bool
same [] [] = true
same [] (y ∷ ys) = false
same (x ∷ xs) [] = false
same (x ∷ xs) (y ∷ ys) = x == y && same xs ys

-- what a comparison of two rows answers, by their ranks
abbrev pub Compared : Ordering → List ℕ → List ℕ → Type 0
Compared o a b = MatchOrdering o (before a b ≡ true) (same a b ≡ true) (before b a ≡ true)

-- every row passes the test
abbrev pub every : {X : Type 0} → (X → Bool) → List X → Bool
every test [] = true
every test (x ∷ xs) = test x && every test xs

-- the test holds of each row and every later one
abbrev pub pairwise : {X : Type 0} → (X → X → Bool) → List X → Bool
pairwise test [] = true
pairwise test (x ∷ xs) = every (test x) xs && pairwise test xs

abbrev pub Pairwise : {X : Type 0} → (X → X → Bool) → List X → Type 0
Pairwise test xs = pairwise test xs ≡ true

-- no row comes before an earlier one
abbrev pub InOrder : {X : Type 0} → (X → List ℕ) → List X → Type 0
InOrder rank xs = Pairwise (λ x y. not (before (rank y) (rank x))) xs

-- each row comes before every later one
abbrev pub Rises : {X : Type 0} → (X → List ℕ) → List X → Type 0
Rises rank xs = Pairwise (λ x y. before (rank x) (rank y)) xs

-- the later of two finds
abbrev pub later : {X : Type 0} → Option X → Option X → Option X
later None earlier = earlier
later (Some x) earlier = Some x

-- the first row that passes a test
abbrev pub first : {X : Type 0} → (X → Bool) → List X → Option X
first test [] = None
first test (x ∷ xs) = cond (test x) (Some x) (first test xs)

-- the last row that passes a test
abbrev pub last : {X : Type 0} → (X → Bool) → List X → Option X
last test [] = None
last test (x ∷ xs) = later (last test xs) (cond (test x) (Some x) None)

-- the first row of a rank
abbrev pub at : {X : Type 0} → (X → List ℕ) → List ℕ → List X → Option X
at rank q xs = first (λ x. same (rank x) q) xs

-- how many rows are of a rank
abbrev pub tally : {X : Type 0} → (X → List ℕ) → List ℕ → List X → ℕ
tally rank q [] = 0
tally rank q (x ∷ xs) = cond (same (rank x) q) 1 0 + tally rank q xs

-- between low and high, high left out
abbrev pub inside : ℕ → ℕ → ℕ → Bool
inside low high n = nat_le low n && nat_lt n high
