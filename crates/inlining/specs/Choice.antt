-- The first of the greatest, and the row that tells file and line. Assumes nothing.
use Rattle.std.specs.Prelude.{ℕ, Bool, cond, List, filter, Option, Ok, Result, nat_lt, nat_le}
use Rattle.std.specs.List.{reduce}
use Rattle.base.specs.declared.refusal.Refusal.{Refusal}
use Rattle.base.specs.declared.refusal.FaultyList.TheVariants.{LineRows}
use Rattle.base.specs.Refusals.{or_refusal}
use Rattle.provider.specs.Modules.{Listed}
use Rattle.provider.specs.declared.symbols.LineRow.{LineRow}
use Rattle.inlining.specs.Steps.{then}

-- a later one counts only if its key is greater
abbrev pub greater : {X : Type 0} → (X → ℕ) → X → X → X
greater key x y = cond (nat_lt (key x) (key y)) y x

-- the first of those whose key is the greatest
abbrev pub greatest : {X : Type 0} → (X → ℕ) → List X → Option X
greatest key xs = reduce (greater key) xs

abbrev pub line_place : LineRow → ℕ
line_place r = r.offset

abbrev pub upto : ℕ → LineRow → Bool
upto place r = nat_le r.offset place

-- of the rows at or below a place the one of greatest place, the first among equals
abbrev pub line_of : ℕ → List LineRow → Option LineRow
line_of place rows = greatest line_place (filter (upto place) rows)

-- a list of line rows that ends with a fault refuses
abbrev pub line_at : ℕ → Listed LineRow → ℕ → Result (Option LineRow) Refusal
line_at m lines place = then (or_refusal (LineRows m) lines.ending) (λ u. Ok (line_of place lines.items))
