-- What is promised of the list of functions, in other words. Assumes nothing.
use Rattle.std.specs.Prelude.{◌≡◌, ℕ, zero, suc, ◌+◌, Bool, false, List, [], ◌∷◌, ◌++◌, map, is_some, Some, None, Ok, Err, Option, Result, ◌==◌}
use Rattle.std.specs.List.{list_any}
use Rattle.order.specs.Rank.{Rises, at}
use Rattle.base.specs.declared.image.Section.{Section}
use Rattle.base.specs.declared.image.SectionOffset.{SectionOffset}
use Rattle.base.specs.declared.refusal.Refusal.{Refusal}
use Rattle.building.specs.Outcome.{Built}
use Rattle.provider.specs.Modules.{Modules}
use Rattle.procedures.specs.declared.row.Procedure.{Procedure}
use Rattle.lookup.specs.Reading.{empty_shelf, reading}
use Rattle.addresses.specs.Rows.{address_rank}
use Rattle.addresses.specs.declared.Address.{Address}
use Rattle.listing.specs.Listing.{rva_of, listed, start_offset, procedure_offset}

-- a module without information has no procedures
abbrev pub procedures_or : Result (Option (List Procedure)) Refusal → List Procedure
procedures_or (Ok (Some ps)) = ps
procedures_or (Ok None) = []
procedures_or (Err e) = []

-- the procedures of so many modules, from number k on
abbrev pub all_procedures : Modules → ℕ → ℕ → List Procedure
all_procedures ms k zero = []
all_procedures ms k (suc left) = procedures_or (reading k (ms.at k)) ++ all_procedures ms (k + 1) left

-- where functions may start: at the known starts, and where procedures do
abbrev pub places : Modules → Built → List SectionOffset
places ms c = map start_offset c.starts ++ map procedure_offset (all_procedures ms 0 ms.count)

abbrev pub is_at : List Section → ℕ → SectionOffset → Bool
is_at sections a o = elim (rva_of sections o) [ None ↦ false | Some b ↦ b == a ]

-- a list that a fresh resolver gives rises, and has just the addresses of these places
abbrev pub Lists : Modules → Built → Type 0
Lists ms c =
    (rows : ℕ) (xs : List Address) → (listed ms c rows empty_shelf).answer ≡ Ok xs →
    Rises address_rank xs × ((a : ℕ) → is_some (at address_rank (a ∷ []) xs) ≡ list_any (is_at c.sections a) (places ms c))
