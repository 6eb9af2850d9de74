-- What holds of all that a text says. Assumes nothing.
use Rattle.std.specs.Prelude.{◌≡◌, ℕ, ◌^◌, ◌<◌, ◌≤◌, List, length, IfSome, Some, Ok, Option}
use Rattle.std.specs.List.{AllByRecursion}
use Rattle.description.specs.Described.{lines_of, text_said}
use Rattle.description.specs.Drafts.{ImageLists, PartLists, Lists}
use Rattle.description.specs.Names.{Quoting, Named}
use Rattle.description.specs.Reading.{Written, line_row}

-- every list is counted in 32 bits
pub record ShortImage (a : ImageLists) : Type 0 where
  pub sections : length a.sections < 2 ^ 32
  pub symbols : length a.symbols < 2 ^ 32
  pub contributions : length a.contributions < 2 ^ 32

pub record ShortParts (a : PartLists) : Type 0 where
  pub symbols : length a.symbols < 2 ^ 32
  pub files : length a.files < 2 ^ 32
  pub site_lists : length a.sites.lists < 2 ^ 32
  pub site_rows : length a.sites.rows < 2 ^ 32
  pub line_lists : length a.lines.lists < 2 ^ 32
  pub line_rows : length a.lines.rows < 2 ^ 32

pub record Short (a : Lists) : Type 0 where
  pub text : length a.text < 2 ^ 32
  pub image : ShortImage a.image
  pub modules : length a.modules.modules < 2 ^ 32
  pub parts : ShortParts a.modules.parts
  pub hidden : length a.hidden < 2 ^ 32
  pub questions : length a.questions < 2 ^ 32

-- a size that is said is at most 16,777,216
abbrev pub Room : Option ℕ → Type 0
Room o = IfSome o (λ n. n ≤ 2 ^ 24)

pub record Roomy (a : ImageLists) : Type 0 where
  pub starts : Room a.said.start_rows
  pub contributions : Room a.said.contribution_rows
  pub frames : Room a.said.frame_rows
  pub addresses : Room a.said.address_rows

-- a name on this line stands in quotes
abbrev pub QuotingLine : List ℕ → Type 0
QuotingLine line = (w : Written) → line_row line ≡ Ok (Some w) → Quoting w

pub record Sound (text : List ℕ) (a : Lists) : Type 0 where
  pub short : Short a
  pub room : Roomy a.image
  -- names that stand in quotes lie within the text
  pub names : AllByRecursion QuotingLine (lines_of text) → Named a

abbrev pub AlwaysSound : Type 0
AlwaysSound = (text : List ℕ) (a : Lists) → text_said text ≡ Ok a → Sound text a
