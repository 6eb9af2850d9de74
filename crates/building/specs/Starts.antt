-- Which starts an image has. Assumes nothing.
use Rattle.std.specs.Prelude.{◌≡◌, ℕ, ◌+◌, ◌-◌, Bool, false, cond, not, ◌&&◌, List, [], ◌∷◌, ◌++◌, map, drop, is_some, Some, None, filter, Option, ◌==◌}
use Rattle.std.specs.List.{slice_get}
use Rattle.order.specs.Rank.{same, Rises, first, at}
use Rattle.base.specs.Rows.{offset_rank, start_rank, named, named_start, unnamed_start}
use Rattle.base.specs.declared.image.SectionOffset.{SectionOffset}
use Rattle.base.specs.declared.image.Section.{Section}
use Rattle.base.specs.declared.image.SectionContribution.{SectionContribution}
use Rattle.base.specs.declared.image.PublicSymbol.{PublicSymbol}
use Rattle.base.specs.declared.context.KnownStart.{KnownStart}

abbrev pub marked : Option Section → Bool
marked None = false
marked (Some s) = s.executable

-- section numbers count from 1; one that no section has is not executable
abbrev pub executable : List Section → ℕ → Bool
executable sections n = cond (n == 0) false (marked (slice_get sections (n - 1)))

-- the starts of the public symbols: those in executable sections
abbrev pub symbol_starts : List Section → List PublicSymbol → List KnownStart
symbol_starts sections ps = map named_start (filter (λ p. executable sections p.offset.section) ps)

-- contributions that count: not empty, and in an executable section
abbrev pub keeps : List Section → SectionContribution → Bool
keeps sections c = not (c.size == 0) && executable sections c.offset.section

abbrev pub kept : List Section → List SectionContribution → List SectionContribution
kept sections cs = filter (keeps sections) cs

-- the starts of the contributions that count: all but the first add theirs
abbrev pub contribution_starts : List SectionContribution → List KnownStart
contribution_starts cs = map (λ c. unnamed_start c.offset) (drop 1 cs)

-- the end of each executable section; the first section of the list has number n
abbrev pub section_ends : ℕ → List Section → List KnownStart
section_ends n [] = []
section_ends n (s ∷ ss) = cond s.executable (unnamed_start (record { section = n; offset = s.size }) ∷ []) [] ++ section_ends (n + 1) ss

abbrev pub or_else : {X : Type 0} → Option X → Option X → Option X
or_else None o = o
or_else (Some x) o = Some x

-- the start that a list of starts gives an offset: the first named one there, else the first one
abbrev pub start_at : List KnownStart → SectionOffset → Option KnownStart
start_at cs o = or_else (first (λ s. named s && same (start_rank s) (offset_rank o)) cs) (at start_rank (offset_rank o) cs)

-- the known starts of a list of starts: in order, one for each offset, the one that the list gives it
pub record Known (cs xs : List KnownStart) : Type 0 where
  pub rises : Rises start_rank xs
  pub gives : (o : SectionOffset) → at start_rank (offset_rank o) xs ≡ start_at cs o

-- how many different offsets a list of starts has
abbrev pub offset_count : List KnownStart → ℕ
offset_count [] = 0
offset_count (s ∷ ss) = cond (is_some (at start_rank (start_rank s) ss)) 0 1 + offset_count ss
