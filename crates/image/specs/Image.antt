-- What an image source means. Assumes nothing.
use Rattle.std.specs.Prelude.{ℕ, ◌+◌, ◌^◌, ◌<◌, ◌≤◌, List, length, slice_index_or}
use Rattle.std.specs.List.{slice_get}
use Rattle.base.specs.declared.image.TextPart.{TextPart}
use Rattle.base.specs.declared.image.Section.{Section}
use Rattle.base.specs.declared.image.SectionContribution.{SectionContribution}
use Rattle.base.specs.declared.image.PublicSymbol.{PublicSymbol}
use Rattle.base.specs.Lists.{Ending, Entry, answered}

pub record Image : Type 0 where
  pub text : List ℕ
  pub sections : List Section
  pub symbols : List PublicSymbol
  pub symbols_end : Ending
  pub contributions : List SectionContribution
  pub contributions_end : Ending

-- what is answered to a question for item k
abbrev pub entry : {X : Type 0} → List X → Ending → ℕ → Entry X
entry xs end k = answered end (slice_get xs k)

abbrev pub PartOf : List ℕ → TextPart → Type 0
PartOf text p = p.start + p.length ≤ length text

pub record Lawful (i : Image) : Type 0 where
  pub few_sections : length i.sections < 2 ^ 32
  pub few_symbols : length i.symbols < 2 ^ 32
  pub few_contributions : length i.contributions < 2 ^ 32
  pub names : (k : ℕ) (d : PublicSymbol) → k < length i.symbols → PartOf i.text (slice_index_or i.symbols k d).name
