-- Where the names of rows lie. Assumes nothing.
use Rattle.std.specs.Prelude.{ℕ, ◌+◌, ◌≤◌, List, length, Some, None}
use Rattle.std.specs.List.{AllByRecursion}
use Rattle.base.specs.declared.image.TextPart.{TextPart}
use Rattle.provider.specs.declared.symbols.Symbol.{Symbol}
use Rattle.provider.specs.declared.symbols.Symbol.TheVariants.{Procedure, Thunk}
use Rattle.description.specs.declared.row.ImageRow.{ImageRow}
use Rattle.description.specs.declared.row.ImageRow.TheVariants.{Public}
use Rattle.description.specs.declared.row.ModulePart.{ModulePart}
use Rattle.description.specs.declared.row.ModulePart.TheVariants.{Symbol as SymbolPart, File}
use Rattle.description.specs.declared.row.Row.{Row}
use Rattle.description.specs.declared.row.Row.TheVariants.{Image, Part}
use Rattle.description.specs.Drafts.{Lists}
use Rattle.description.specs.Reading.{Written}

-- P holds of the name, if there is one
abbrev pub SymbolName : (TextPart → Type 0) → Symbol → Type 0
SymbolName P (Procedure offset length end type name) = P name
SymbolName P (Thunk offset length end name) = P name
SymbolName P s = Unit {0}

abbrev pub ImageName : (TextPart → Type 0) → ImageRow → Type 0
ImageName P (Public p) = P p.name
ImageName P r = Unit {0}

abbrev pub PartName : (TextPart → Type 0) → ModulePart → Type 0
PartName P (SymbolPart s) = SymbolName P s.symbol
PartName P (File f) = P f.name
PartName P p = Unit {0}

abbrev pub RowName : (TextPart → Type 0) → Row → Type 0
RowName P (Image r) = ImageName P r
RowName P (Part p) = PartName P p
RowName P r = Unit {0}

-- a name that the row bears is quoted, and not given by its place
abbrev pub Quoting : Written → Type 0
Quoting w = elim w.quoted [ None ↦ RowName (λ n. ⊥) w.row | Some raw ↦ Unit {0} ]

abbrev pub Within : List ℕ → TextPart → Type 0
Within text n = n.start + n.length ≤ length text

-- every name is a part of the text
pub record Named (a : Lists) : Type 0 where
  pub publics : AllByRecursion (λ s. Within a.text s.name) a.image.symbols
  pub symbols : AllByRecursion (λ s. SymbolName (Within a.text) s.symbol) a.modules.parts.symbols
  pub files : AllByRecursion (λ f. Within a.text f.name) a.modules.parts.files
