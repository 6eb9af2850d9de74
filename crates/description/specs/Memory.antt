-- Where memory may run out: only where a list or the text gets longer. Assumes nothing.
use Rattle.std.specs.Prelude.{◌≡◌, ℕ, ◌<◌, List, [], ◌∷◌, ◌⊎◌, Some, None, Ok, Option, IsOk}
use Rattle.words.specs.Quotes.{complete}
use Rattle.description.specs.declared.row.ImageRow.{ImageRow}
use Rattle.description.specs.declared.row.ImageRow.TheVariants.{Section, Public, Contribution}
use Rattle.description.specs.declared.row.ModulePart.{ModulePart}
use Rattle.description.specs.declared.row.ModulePart.TheVariants.{SymbolsEnd, Extras}
use Rattle.description.specs.declared.row.Row.{Row}
use Rattle.description.specs.declared.row.Row.TheVariants.{Text, Image, Part}
use Rattle.description.specs.Described.{lines_of}
use Rattle.description.specs.Drafts.{Lists, nothing, line_said, written_said}
use Rattle.description.specs.Reading.{Written, line_row}

-- with this row a list gets longer
abbrev pub ImageLengthens : ImageRow → Type 0
ImageLengthens (Section s) = Unit {0}
ImageLengthens (Public p) = Unit {0}
ImageLengthens (Contribution c) = Unit {0}
ImageLengthens r = ⊥

abbrev pub PartLengthens : ModulePart → Type 0
PartLengthens (SymbolsEnd e) = ⊥
PartLengthens (Extras e) = ⊥
PartLengthens p = Unit {0}

abbrev pub Lengthens : Row → Type 0
Lengthens Text = ⊥
Lengthens (Image r) = ImageLengthens r
Lengthens (Part p) = PartLengthens p
Lengthens r = Unit {0}

-- the text gets longer by what stands in quotes, up to a mistake in it
abbrev pub QuoteLengthens : Option (List ℕ) → Type 0
QuoteLengthens None = ⊥
QuoteLengthens (Some raw) = 0 < complete raw

-- that, or the row has no mistake and a list gets longer
abbrev pub RowGrows : Written → Lists → Type 0
RowGrows w a = QuoteLengthens w.quoted ⊎ (Lengthens w.row × IsOk (written_said (Some w) a))

abbrev pub LineGrows : List ℕ → Lists → Type 0
LineGrows line a = (w : Written) × (line_row line ≡ Ok (Some w)) × RowGrows w a

-- at the first of these lines, or below it where that line has no mistake
abbrev pub RunsOut : List (List ℕ) → Lists → Type 0
RunsOut [] a = ⊥
RunsOut (l ∷ ls) a = LineGrows l a ⊎ ((b : Lists) × (line_said l a ≡ Ok b) × RunsOut ls b)

abbrev pub TextRunsOut : List ℕ → Type 0
TextRunsOut text = RunsOut (lines_of text) nothing
