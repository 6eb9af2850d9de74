-- The rows of the innermost site, one after another. Assumes nothing.
use Rattle.std.specs.Prelude.{ℕ, List, [], ◌∷◌, length, Ok, Result}
use Rattle.base.specs.declared.refusal.Refusal.{Refusal}
use Rattle.building.specs.Starts.{or_else}
use Rattle.provider.specs.declared.symbols.SiteRow.{SiteRow}
use Rattle.frames.specs.declared.range.OpenSite.{OpenSite}
use Rattle.inlining.specs.Steps.{then}
use Rattle.inlining.specs.Ranges.{Walked, file_of, range_of, with_range}

-- a site that has these rows more: it keeps the file that it has
abbrev pub filed : OpenSite → List SiteRow → OpenSite
filed s rows = record s { file = or_else s.file (file_of rows) }

-- a row of the innermost site, whose record is the one at number k of module m
abbrev pub row_added : ℕ → ℕ → SiteRow → Walked → Result Walked Refusal
row_added m k row w = elim w.sites [
  | [] ↦ Ok w
  | s ∷ sites ↦ then (with_range m k w.ranges (range_of (length sites) s.inlinee row)) (λ rs. Ok (record { sites = filed s (row ∷ []) ∷ sites; ranges = rs }))
]

abbrev pub rows_added : ℕ → ℕ → List SiteRow → Walked → Result Walked Refusal
rows_added m k [] w = Ok w
rows_added m k (row ∷ rows) w = then (row_added m k row w) (λ v. rows_added m k rows v)
