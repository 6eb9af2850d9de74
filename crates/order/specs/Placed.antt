-- What an ordered list holds once one more row has come into it. Assumes nothing.
use Rattle.std.specs.Prelude.{◌≡◌, ℕ, ◌<◌, ◌≤◌, true, false, cond, List, [], ◌∷◌, ◌++◌, length, take, drop, Some, None, Option, slice_index_or, slice_set}
use Rattle.order.specs.Rank.{before, same}
use Rattle.order.specs.declared.Meeting.{Meeting}
use Rattle.order.specs.declared.Meeting.TheVariants.{Stays, GivesWay, Both}

-- x stands at the place of r, which has the same rank
abbrev pub met : {X : Type 0} → Meeting → X → X → List X → List X
met Stays x r xs = x ∷ xs
met GivesWay x r xs = r ∷ xs
met Both x r xs = r ∷ x ∷ xs

-- the same of a whole list, at a place in it
abbrev pub changed : {X : Type 0} → Meeting → List X → ℕ → X → List X
changed Stays xs place r = xs
changed GivesWay xs place r = slice_set xs place r
changed Both xs place r = take place xs ++ r ∷ drop place xs

-- the rows before r stay before it
abbrev pub placed : {X : Type 0} → (X → List ℕ) → (X → X → Meeting) → X → List X → List X
placed rank meets r [] = r ∷ []
placed rank meets r (x ∷ xs) = cond (before (rank x) (rank r)) (x ∷ placed rank meets r xs) (cond (same (rank x) (rank r)) (met (meets x r) x r xs) (r ∷ x ∷ xs))

-- where a row of rank q goes: the rows below that place come before q, and none from it on
pub record Place {X : Type 0} (rank : X → List ℕ) (xs : List X) (q : List ℕ) (place : ℕ) : Type 0 where
  pub within : place ≤ length xs
  pub below : (k : ℕ) (d : X) → k < place → before (rank (slice_index_or xs k d)) q ≡ true
  pub above : (k : ℕ) (d : X) → place ≤ k → k < length xs → before (rank (slice_index_or xs k d)) q ≡ false

-- how far the rows reach that do not come after q: those below that place, and none from it on
pub record Reach {X : Type 0} (rank : X → List ℕ) (xs : List X) (q : List ℕ) (place : ℕ) : Type 0 where
  pub within : place ≤ length xs
  pub upto : (k : ℕ) (d : X) → k < place → before q (rank (slice_index_or xs k d)) ≡ false
  pub past : (k : ℕ) (d : X) → place ≤ k → k < length xs → before q (rank (slice_index_or xs k d)) ≡ true

-- what becomes of a table whose first rows are used when r comes in: the used rows become those with r placed, and the rows past
-- them stay; or that would not fit, and everything stays
abbrev pub Settled : {X : Type 0} → (X → List ℕ) → (X → X → Meeting) → List X → ℕ → X → Option ℕ → List X → Type 0
Settled rank meets rows count r (Some n) rows' = (n ≡ length (placed rank meets r (take count rows))) × (n ≤ length rows) × (rows' ≡ placed rank meets r (take count rows) ++ drop n rows)
Settled rank meets rows count r None rows' = (length rows < length (placed rank meets r (take count rows))) × (rows' ≡ rows)
