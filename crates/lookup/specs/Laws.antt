-- What is promised of lookup, in other words. Assumes nothing.
use Rattle.std.specs.Prelude.{◌≡◌, ℕ, ◌≤◌, Bool, true, ◌&&◌, ◌||◌, ◌⊎◌, ◌↔◌, List, Some, None, Ok, ◌==◌, nat_le, nat_lt}
use Rattle.order.specs.Rank.{Rises, first, at, before}
use Rattle.base.specs.Rows.{offset_rank}
use Rattle.base.specs.declared.image.SectionOffset.{SectionOffset}
use Rattle.base.specs.declared.context.KnownStart.{KnownStart}
use Rattle.building.specs.Outcome.{Built, top}
use Rattle.provider.specs.Modules.{Modules}
use Rattle.procedures.specs.Rows.{procedure_rank}
use Rattle.procedures.specs.declared.row.Procedure.{Procedure}
use Rattle.procedures.specs.declared.function.Location.{Location}
use Rattle.procedures.specs.declared.function.Function.{Function}
use Rattle.lookup.specs.Reading.{Shelved, shelve, in_order}
use Rattle.lookup.specs.Places.{locate}
use Rattle.lookup.specs.Finding.{chosen, covers, find_function}

-- the procedures of a module in other words: they rise, and at each offset stands the first that was kept
abbrev pub FirstsInOrder : List Procedure → Type 0
FirstsInOrder ps =
    Rises procedure_rank (in_order ps) × ((o : SectionOffset) → at procedure_rank (offset_rank o) (in_order ps) ≡ at procedure_rank (offset_rank o) ps)

-- the chosen procedure in other words: it contains the place, and every other that does starts before it
abbrev pub StartsLast : SectionOffset → List Procedure → Type 0
StartsLast o ps = (p : Procedure) → chosen o ps ≡ Some p → (covers o p ≡ true) × (first (λ x. covers o x && before (procedure_rank p) (procedure_rank x)) ps ≡ None)

-- a known start of their section lies above the lower of two places and at or below the higher
abbrev pub between : SectionOffset → SectionOffset → KnownStart → Bool
between low high s = s.offset.section == high.section && (nat_lt low.offset s.offset.offset && nat_le s.offset.offset high.offset)

abbrev pub separates : SectionOffset → SectionOffset → KnownStart → Bool
separates a b s = between a b s || between b a s

abbrev pub SameExtent : Function → Function → Type 0
SameExtent f g = (f.start_rva ≡ g.start_rva) × (f.end_rva ≡ g.end_rva)

-- one procedure is chosen for both places, or none for either and no known start separates them
abbrev pub Together : List KnownStart → SectionOffset → SectionOffset → List Procedure → Type 0
Together starts a b ps =
    ((p : Procedure) × (chosen a ps ≡ Some p) × (chosen b ps ≡ Some p))
    ⊎ ((chosen a ps ≡ None) × (chosen b ps ≡ None) × (first (separates a b) starts ≡ None))

-- two answered addresses of one contribution, neither above the top, have the same extent exactly when they belong together
abbrev pub Extents : List ℕ → Modules → Built → Shelved → Type 0
Extents text ms c s =
    (a b : ℕ) (l k : Location) (f g : Function) → a ≤ top → b ≤ top →
    locate c a ≡ Some l → locate c b ≡ Some k → l.contribution ≡ k.contribution →
    (find_function text ms c a s).answer ≡ Ok (Some f) → (find_function text ms c b s).answer ≡ Ok (Some g) →
    SameExtent f g ↔ Together c.starts l.offset k.offset (shelve ms l.contribution.«module» s).shelf.procedures
