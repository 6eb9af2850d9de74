-- The longest stretches of places that pass a test. Assumes nothing.
use Rattle.std.specs.Prelude.{ℕ, zero, suc, ◌+◌, Bool, cond, List, [], ◌∷◌, ◌==◌}

-- from a place up to another, which is left out
pub record Stretch : Type 0 where
  pub from : ℕ
  pub upto : ℕ

-- place n comes to stretches below it: the last one grows, if it ends there
abbrev pub with_place : ℕ → List Stretch → List Stretch
with_place n [] = record { from = n; upto = n + 1 } ∷ []
with_place n (s ∷ []) = cond (s.upto == n) (record { from = s.from; upto = n + 1 } ∷ []) (s ∷ record { from = n; upto = n + 1 } ∷ [])
with_place n (s ∷ t ∷ ss) = s ∷ with_place n (t ∷ ss)

-- the longest stretches below n of places that pass the test, rising
abbrev pub stretches : (ℕ → Bool) → ℕ → List Stretch
stretches test zero = []
stretches test (suc n) = cond (test n) (with_place n (stretches test n)) (stretches test n)
