-- How far procedures reach, many at a time. Assumes nothing.
use Rattle.std.specs.Prelude.{ℕ, ◌+◌, ◌*◌, ◌<◌, ◌≤◌, List, length, slice_index_or}
use Rattle.procedures.specs.declared.row.Procedure.{Procedure}
use Rattle.shelf.specs.declared.stretches.Stretch.{Stretch}

-- a place by one number: the sections lie one after the other, so far apart that whatever starts in one ends before the next
abbrev pub along : ℕ → ℕ → ℕ
along section n = section * 8589934592 + n

abbrev pub end_of : Procedure → ℕ
end_of p = along p.offset.section (p.offset.offset + p.length)

-- a stretch goes up to a row, and no procedure in it ends after its end
pub record Bounds (ps : List Procedure) (k : ℕ) (s : Stretch) : Type 0 where
  pub back : s.from ≤ k
  pub ends : (j : ℕ) (d : Procedure) → s.from ≤ j → j ≤ k → end_of (slice_index_or ps j d) ≤ s.end

-- the stretches of the first rows
abbrev pub FirstStretched : ℕ → List Procedure → List Stretch → Type 0
FirstStretched count ps ss = (k : ℕ) (d : Stretch) → k < count → Bounds ps k (slice_index_or ss k d)

abbrev pub Stretched : List Procedure → List Stretch → Type 0
Stretched ps ss = FirstStretched (length ps) ps ss
