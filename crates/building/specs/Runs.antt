-- Blocks in other words: the longest runs of neighbours of one section and module. Assumes nothing.
use Rattle.std.specs.Prelude.{◌≡◌, Bool, true, false, ◌&&◌, List, [], ◌∷◌, map, reverse, ◌==◌}
use Rattle.std.specs.List.{flat_map, AllByRecursion}
use Rattle.base.specs.Rows.{no_contribution}
use Rattle.base.specs.declared.image.SectionContribution.{SectionContribution}
use Rattle.base.specs.declared.context.Contribution.{Contribution}
use Rattle.building.specs.Blocks.{end_of, blocks}

abbrev pub alike : SectionContribution → SectionContribution → Bool
alike a b = a.offset.section == b.offset.section && a.«module» == b.«module»

-- a run, the newest first: one contribution at least, and all of one section and module
abbrev pub Run : List SectionContribution → Type 0
Run [] = ⊥
Run (c ∷ cs) = AllByRecursion (λ d. alike d c ≡ true) cs

-- two runs, the newer first, are of different sections or modules
abbrev pub Differ : List SectionContribution → List SectionContribution → Type 0
Differ [] older = ⊥
Differ (c ∷ cs) [] = ⊥
Differ (c ∷ cs) (d ∷ ds) = alike d c ≡ false

-- no run could be longer
abbrev pub Longest : List (List SectionContribution) → Type 0
Longest [] = Unit {0}
Longest (r ∷ []) = Unit {0}
Longest (r ∷ s ∷ rs) = Differ r s × Longest (s ∷ rs)

abbrev pub oldest : SectionContribution → List SectionContribution → SectionContribution
oldest c [] = c
oldest c (d ∷ ds) = oldest d ds

-- from the start of its oldest contribution up to the end of its newest
abbrev pub span : List SectionContribution → Contribution
span [] = no_contribution
span (c ∷ cs) = record { section = c.offset.section; start = (oldest c cs).offset.offset; end = end_of c; «module» = c.«module» }

-- the contributions fall into such runs, and each is one block
abbrev pub BlocksAreRuns : List SectionContribution → Type 0
BlocksAreRuns cs = (rs : List (List SectionContribution)) × (flat_map (λ r. r) rs ≡ reverse cs) × AllByRecursion Run rs × Longest rs × (blocks cs ≡ map span rs)
