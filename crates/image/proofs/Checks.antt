-- The search for a row that does not lie within a length. Assumes nothing.
use Rattle.std.proofs.Common.{◌≡◌, ℕ, ◌+◌, Bool, not, List, [], ◌∷◌, refl, sym, ap, ◌∙◌, arith}
use Rattle.std.proofs.lemmas.Iterator.Adapters.{position_from-zero}
use Rattle.std.specs.List.{position, position_from}
use Rattle.std.specs.Option.{option_map}
use Rattle.base.specs.declared.refusal.Refusal.TheVariants.{BadRow}
use Rattle.base.specs.declared.refusal.RowTable.{RowTable}
use Rattle.image.specs.Checks.{outside}

outside_from : {X : Type 0} (within : ℕ → X → Bool) (table : RowTable) (long k : ℕ) (xs : List X) → outside within table long k xs ≡ option_map (BadRow table) (position_from (λ x. not (within long x)) k xs)
outside_from within table long k [] = refl
outside_from within table long k (x ∷ xs) = let ih = outside_from within table long (k + 1) xs in grind arith

-- the first row that does not lie within the length is the one that is refused
pub outside_position : {X : Type 0} (within : ℕ → X → Bool) (table : RowTable) (long : ℕ) (xs : List X) → outside within table long 0 xs ≡ option_map (BadRow table) (position (λ x. not (within long x)) xs)
outside_position within table long xs =
    outside_from within table long 0 xs ∙ ap (option_map (BadRow table)) (sym (position_from-zero (λ x. not (within long x)) xs))
