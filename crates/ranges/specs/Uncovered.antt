-- Places that calls cover and their site does not, and how they are sought from edge to edge. Assumes nothing.
use Rattle.std.specs.Prelude.{◌≡◌, ℕ, ◌+◌, ◌<◌, ◌≤◌, Bool, true, false, cond, not, ◌&&◌, List, Some, None, Option, ◌==◌, nat_lt}
use Rattle.frames.specs.declared.range.InlineRange.{InlineRange}
use Rattle.inlining.specs.Ranges.{over, covered}

-- whether ranges cover a place at the next depth, and not at this one
abbrev pub uncovered_at : ℕ → List InlineRange → ℕ → Bool
uncovered_at depth rs place = covered (depth + 1) place rs && not (covered depth place rs)

abbrev pub at_next_depth : ℕ → InlineRange → Bool
at_next_depth depth r = r.depth == depth + 1

-- where a range of some depth ends that contains a place
abbrev pub end_over : ℕ → ℕ → InlineRange → Option ℕ
end_over depth place r = cond (over depth place r) (Some r.end) None

-- where a range begins to contain the places above one, or ends
abbrev pub edge_above : ℕ → InlineRange → Option ℕ
edge_above place r = cond (nat_lt place r.start) (Some r.start) (cond (nat_lt place r.end) (Some r.end) None)

-- from a place on up to another, or for good, a test answers alike
abbrev pub Steady : (ℕ → Bool) → ℕ → Option ℕ → Type 0
Steady test place None = (p : ℕ) → place ≤ p → test p ≡ test place
Steady test place (Some next) = (place < next) × ((p : ℕ) → place ≤ p → p < next → test p ≡ test place)

-- the first place from some place on at which a test gives an answer
abbrev pub First : (ℕ → Bool) → Bool → ℕ → Option ℕ → Type 0
First test answer from None = (place : ℕ) → from ≤ place → test place ≡ not answer
First test answer from (Some found) = (from ≤ found) × (test found ≡ answer) × ((place : ℕ) → from ≤ place → place < found → test place ≡ not answer)

-- the first stretch from some place on of places that pass a test
abbrev pub FirstStretch : (ℕ → Bool) → ℕ → Option (ℕ × ℕ) → Type 0
FirstStretch test from None = First test true from None
FirstStretch test from (Some (start, end)) = First test true from (Some start) × First test false start (Some end)
