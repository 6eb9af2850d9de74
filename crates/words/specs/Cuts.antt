-- A list cut at the first place of a mark, which is left out. Assumes nothing.
use Rattle.std.specs.Prelude.{ℕ, ◌+◌, List, take, drop, Option, ◌==◌}
use Rattle.std.specs.Borrow.{Bor}
use Rattle.std.specs.List.{position}
use Rattle.std.specs.Option.{option_map}

-- what stands before the mark, and what after it
abbrev pub cut_at : ℕ → List ℕ → Option (List ℕ × List ℕ)
cut_at mark cs = option_map (λ i. (take i cs, drop (i + 1) cs)) (position (λ c. c == mark) cs)

abbrev pub cut_parts : Bor (List ℕ) × Bor (List ℕ) → List ℕ × List ℕ
cut_parts p = (p.0.now, p.1.now)
