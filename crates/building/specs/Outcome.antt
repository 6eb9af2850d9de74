-- What building gives: a context's tables, or which refusal. Assumes nothing.
use Rattle.std.specs.Prelude.{◌≡◌, ℕ, ◌+◌, Bool, false, cond, not, ◌&&◌, ◌||◌, List, [], ◌∷◌, ◌++◌, length, take, Some, None, Ok, Err, Option, Result, nat_le, nat_lt}
use Rattle.base.specs.declared.image.Section.{Section}
use Rattle.base.specs.declared.image.SectionContribution.{SectionContribution}
use Rattle.base.specs.Lists.{Ending}
use Rattle.base.specs.declared.context.KnownStart.{KnownStart}
use Rattle.base.specs.declared.context.Contribution.{Contribution}
use Rattle.base.specs.declared.refusal.Step.{Step}
use Rattle.base.specs.declared.refusal.Step.TheVariants.{ReadPublicSymbols, ReadContributions, AddSectionEnds}
use Rattle.base.specs.declared.refusal.FaultyList.{FaultyList}
use Rattle.base.specs.declared.refusal.FaultyList.TheVariants.{PublicSymbols, Contributions}
use Rattle.base.specs.declared.refusal.Refusal.{Refusal}
use Rattle.base.specs.declared.refusal.Refusal.TheVariants.{StartTableFull, ContributionTableFull, SectionOutside, ContributionOutside, Unordered, Fault}
use Rattle.image.specs.Image.{Image}
use Rattle.building.specs.Starts.{symbol_starts, keeps, kept, contribution_starts, section_ends, or_else, Known, offset_count}
use Rattle.building.specs.Blocks.{end_of, joins, blocks, Stands, first_overlap}

-- the greatest address and offset
abbrev pub top : ℕ
top = 4294967295

abbrev pub most_sections : ℕ
most_sections = 96

-- the refusal of the first item that is refused; the list's first item has number k
abbrev pub first_refusal : {X : Type 0} → (ℕ → X → Option Refusal) → ℕ → List X → Option Refusal
first_refusal refuses k [] = None
first_refusal refuses k (x ∷ xs) = or_else (refuses k x) (first_refusal refuses (k + 1) xs)

abbrev pub fault : FaultyList → Ending → Option Refusal
fault list (Ok u) = None
fault list (Err code) = Some (Fault list code)

-- starts that a table of so many rows cannot hold
abbrev pub starts_full : ℕ → List KnownStart → Step → Option Refusal
starts_full rows cs step = cond (nat_lt rows (offset_count cs)) (Some (StartTableFull step)) None

-- the same of blocks
abbrev pub blocks_full : ℕ → List Contribution → Option Refusal
blocks_full rows bs = cond (nat_lt rows (length bs)) (Some ContributionTableFull) None

-- a contribution, at number k, that ends above the top
abbrev pub outside : ℕ → SectionContribution → Option Refusal
outside k c = cond (nat_lt top (end_of c)) (Some (ContributionOutside k)) None

-- a section past the 96th, or one that ends above the top
abbrev pub section_refusal : ℕ → Section → Option Refusal
section_refusal k s = cond (nat_le most_sections k || nat_lt top (s.address + s.size)) (Some (SectionOutside k)) None

-- c, which does not go on with the newest of these blocks, closes it
abbrev pub closes : List Contribution → SectionContribution → Bool
closes [] c = false
closes (b ∷ bs) c = not (joins b c)

-- c goes on with the newest of these blocks, but starts below its start or ends below its end
abbrev pub unordered : List Contribution → SectionContribution → Bool
unordered [] c = false
unordered (b ∷ bs) c = joins b c && (nat_lt c.offset.offset b.start || nat_lt (end_of c) b.end)

abbrev pub all_symbols : Image → List KnownStart
all_symbols i = symbol_starts i.sections i.symbols

abbrev pub all_kept : Image → List SectionContribution
all_kept i = kept i.sections i.contributions

-- all starts that the image gives, in the order in which they come
abbrev pub all_starts : Image → List KnownStart
all_starts i = (all_symbols i ++ contribution_starts (all_kept i)) ++ section_ends 1 i.sections

-- a contribution c at number k that would bring the starts to so many offsets, and comes after these blocks: on one item the lower number decides
abbrev pub verdict : ℕ → ℕ → ℕ → List Contribution → ℕ → SectionContribution → Option Refusal
verdict start_rows contribution_rows offsets bs k c =
    or_else (cond (nat_lt start_rows offsets) (Some (StartTableFull ReadContributions)) None)
    (or_else (cond (closes bs c && nat_lt contribution_rows (length bs)) (Some ContributionTableFull) None)
    (or_else (outside k c)
    (cond (unordered bs c) (Some (Unordered k c.«module» c.offset.section)) None)))

-- the same after the starts of the public symbols and the contributions in cs
abbrev pub item_refusal : ℕ → ℕ → List KnownStart → List SectionContribution → ℕ → SectionContribution → Option Refusal
item_refusal start_rows contribution_rows symbols cs k c =
    verdict start_rows contribution_rows (offset_count (symbols ++ contribution_starts (cs ++ c ∷ []))) (blocks cs) k c

module _ (i : Image) (start_rows contribution_rows : ℕ) where
  abbrev pub contribution_refusal : ℕ → SectionContribution → Option Refusal
  contribution_refusal k c = cond (keeps i.sections c) (item_refusal start_rows contribution_rows (all_symbols i) (kept i.sections (take k i.contributions)) k c) None

  -- each building step's refusal; xs are the contributions in order
  abbrev pub sections_refused : Option Refusal
  sections_refused = first_refusal section_refusal 0 i.sections

  abbrev pub symbols_refused : Option Refusal
  symbols_refused =
      or_else (starts_full start_rows (all_symbols i) ReadPublicSymbols)
      (fault PublicSymbols i.symbols_end)

  abbrev pub contributions_refused : Option Refusal
  contributions_refused =
      or_else (first_refusal contribution_refusal 0 i.contributions)
      (or_else (fault Contributions i.contributions_end)
      (blocks_full contribution_rows (blocks (all_kept i))))

  abbrev pub ends_refused : Option Refusal
  ends_refused = starts_full start_rows (all_starts i) AddSectionEnds

  -- the step that is met first decides
  abbrev pub refusal : List Contribution → Option Refusal
  refusal xs = or_else sections_refused (or_else symbols_refused (or_else contributions_refused (or_else (first_overlap xs) ends_refused)))

-- what a built context holds
pub record Built : Type 0 where
  pub sections : List Section
  pub starts : List KnownStart
  pub contributions : List Contribution

-- what building from an image into tables of so many rows comes to
abbrev pub Outcome : Image → ℕ → ℕ → Result Built Refusal → Type 0
Outcome i start_rows contribution_rows (Ok b) = (refusal i start_rows contribution_rows b.contributions ≡ None) × (b.sections ≡ i.sections) × Known (all_starts i) b.starts × Stands (blocks (all_kept i)) b.contributions
Outcome i start_rows contribution_rows (Err e) = (xs : List Contribution) × Stands (blocks (all_kept i)) xs × (refusal i start_rows contribution_rows xs ≡ Some e)

-- there is no more than one
abbrev pub OneOutcome : Image → ℕ → ℕ → Type 0
OneOutcome i start_rows contribution_rows = (r r' : Result Built Refusal) → Outcome i start_rows contribution_rows r → Outcome i start_rows contribution_rows r' → r ≡ r'
