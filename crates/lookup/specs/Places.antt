-- Where an address lies. Assumes nothing.
use Rattle.std.specs.Prelude.{ℕ, ◌+◌, ◌-◌, Bool, cond, List, [], ◌∷◌, Some, None, Option}
use Rattle.order.specs.Rank.{first, inside}
use Rattle.base.specs.Rows.{in_section}
use Rattle.base.specs.declared.image.SectionOffset.{SectionOffset}
use Rattle.base.specs.declared.image.Section.{Section}
use Rattle.base.specs.declared.context.Contribution.{Contribution}
use Rattle.building.specs.Outcome.{Built}
use Rattle.procedures.specs.declared.function.Spot.{Spot}
use Rattle.procedures.specs.declared.function.Location.{Location}

-- a section contains an address
abbrev pub here : ℕ → Section → Bool
here a s = inside s.address (s.address + s.size) a

-- the place of an address in the first section that contains it; the list's first section has number n
abbrev pub spot : ℕ → List Section → ℕ → Option Spot
spot n [] a = None
spot n (s ∷ ss) a = cond (here a s) (Some (record { base = s.address; offset = record { section = n; offset = a - s.address } })) (spot (n + 1) ss a)

-- a contribution contains a place of its own section only
abbrev pub holds : SectionOffset → Contribution → Bool
holds o c = in_section c.section c.start c.end o

abbrev pub contribution_at : List Contribution → SectionOffset → Option Contribution
contribution_at cs o = first (holds o) cs

abbrev pub in_contribution : Spot → Option Contribution → Option Location
in_contribution s None = None
in_contribution s (Some c) = Some (record { base = s.base; offset = s.offset; contribution = c })

abbrev pub from_spot : List Contribution → Option Spot → Option Location
from_spot cs None = None
from_spot cs (Some s) = in_contribution s (contribution_at cs s.offset)

-- an address without a section, or whose place no contribution contains, lies nowhere
abbrev pub locate : Built → ℕ → Option Location
locate c a = from_spot c.contributions (spot 1 c.sections a)
