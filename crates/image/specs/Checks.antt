-- Which row of a table is refused. Assumes nothing.
use Rattle.std.specs.Prelude.{ℕ, ◌+◌, Bool, cond, List, [], ◌∷◌, length, Some, None, Option, nat_le, nat_lt}
use Rattle.base.specs.declared.image.TextPart.{TextPart}
use Rattle.base.specs.declared.refusal.Refusal.{Refusal}
use Rattle.base.specs.declared.refusal.Refusal.TheVariants.{BadRow}
use Rattle.base.specs.declared.refusal.RowTable.{RowTable}

-- whether a name is a part of a text of a length
abbrev pub name_within : ℕ → TextPart → Bool
name_within long p = nat_le (p.start + p.length) long

-- of a table of more than the most rows, the first one too many
abbrev pub crowded : {X : Type 0} → RowTable → ℕ → List X → Option Refusal
crowded table most rows = cond (nat_lt most (length rows)) (Some (BadRow table most)) None

-- the first row that does not lie within the length; they are counted from k
abbrev pub outside : {X : Type 0} → (ℕ → X → Bool) → RowTable → ℕ → ℕ → List X → Option Refusal
outside within table long k [] = None
outside within table long k (x ∷ xs) = cond (within long x) (outside within table long (k + 1) xs) (Some (BadRow table k))
