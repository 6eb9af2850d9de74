-- The rows of a context's tables: how they stand, and the empty ones. Assumes nothing.
use Rattle.std.specs.Prelude.{ℕ, Bool, cond, not, ◌&&◌, List, [], ◌∷◌, is_some, Some, None, ◌==◌}
use Rattle.order.specs.Rank.{inside}
use Rattle.order.specs.declared.Meeting.{Meeting}
use Rattle.order.specs.declared.Meeting.TheVariants.{Stays, GivesWay, Both}
use Rattle.base.specs.declared.image.SectionOffset.{SectionOffset}
use Rattle.base.specs.declared.image.PublicSymbol.{PublicSymbol}
use Rattle.base.specs.declared.context.KnownStart.{KnownStart}
use Rattle.base.specs.declared.context.Contribution.{Contribution}

-- by section, and in it by offset
abbrev pub offset_rank : SectionOffset → List ℕ
offset_rank o = o.section ∷ o.offset ∷ []

-- starts stand by their offsets
abbrev pub start_rank : KnownStart → List ℕ
start_rank s = offset_rank s.offset

-- whether something that reaches from low up to high in a section contains a place: none of another section, and not its end
abbrev pub in_section : ℕ → ℕ → ℕ → SectionOffset → Bool
in_section section low high o = section == o.section && inside low high o.offset

abbrev pub named : KnownStart → Bool
named s = is_some s.name

abbrev pub named_start : PublicSymbol → KnownStart
named_start p = record { offset = p.offset; name = Some p.name }

abbrev pub unnamed_start : SectionOffset → KnownStart
unnamed_start o = record { offset = o; name = None }

-- a named start beats an unnamed one, and among equals the first stays
abbrev pub start_meets : KnownStart → KnownStart → Meeting
start_meets s newer = cond (not (named s) && named newer) GivesWay Stays

-- by section, start, end and module
abbrev pub contribution_rank : Contribution → List ℕ
contribution_rank c = c.section ∷ c.start ∷ c.end ∷ c.«module» ∷ []

-- equal contributions all stand, and then overlap
abbrev pub contribution_meets : Contribution → Contribution → Meeting
contribution_meets c newer = Both

abbrev pub no_start : KnownStart
no_start = record { offset = record { section = 0; offset = 0 }; name = None }

abbrev pub no_contribution : Contribution
no_contribution = record { section = 0; start = 0; end = 0; «module» = 0 }
