-- What a text describes. Assumes nothing.
use Rattle.std.specs.Prelude.{if◌then◌else◌, ◌≡◌, ℕ, ◌+◌, List, [], ◌∷◌, length, Ok, Err, vec_items, Result, ◌==◌}
use Rattle.std.specs.Option.{unwrap_or}
use Rattle.base.specs.Lists.{Ending, clean}
use Rattle.modules.specs.declared.tables.ModuleRow.{ModuleRow}
use Rattle.base.specs.declared.image.PublicSymbol.{PublicSymbol}
use Rattle.base.specs.declared.image.Section.{Section}
use Rattle.base.specs.declared.image.SectionContribution.{SectionContribution}
use Rattle.description.specs.declared.Description.{Description}
use Rattle.description.specs.declared.mistake.ReadError.{ReadError}
use Rattle.description.specs.declared.mistake.ReadError.TheVariants.{At, NoMemory}
use Rattle.description.specs.declared.question.Question.{Question}
use Rattle.description.specs.Checks.{Checked, and_then}
use Rattle.description.specs.Drafts.{ImageLists, PartLists, Lists, part_lists, nothing, line_said}

-- a byte more in front of the first line
abbrev pub longer_first : ℕ → List (List ℕ) → List (List ℕ)
longer_first c [] = (c ∷ []) ∷ []
longer_first c (l ∷ ls) = (c ∷ l) ∷ ls

-- the lines of a text: each byte 10 ends one
abbrev pub lines_of : List ℕ → List (List ℕ)
lines_of [] = [] ∷ []
lines_of (c ∷ cs) = if c == 10 then [] ∷ lines_of cs else longer_first c (lines_of cs)

-- a mistake, with the number of its line
abbrev pub numbered : {X : Type 0} → ℕ → Checked X → Result X ReadError
numbered n (Ok x) = Ok x
numbered n (Err m) = Err (At n m)

-- what lines add, the first of them with a number, up to the first mistake
abbrev pub lines_said : ℕ → List (List ℕ) → Lists → Result Lists ReadError
lines_said n [] a = Ok a
lines_said n (l ∷ ls) a = and_then (numbered n (line_said l a)) (lines_said (n + 1) ls)

abbrev pub text_said : List ℕ → Result Lists ReadError
text_said text = lines_said 1 (lines_of text) nothing

-- each public symbol, contribution and section may give a start
abbrev pub starts_at_most : ImageLists → ℕ
starts_at_most a = length a.symbols + length a.contributions + length a.sections

-- each known start and each symbol record may give an address
abbrev pub addresses_at_most : Lists → ℕ
addresses_at_most a = starts_at_most a.image + length a.modules.parts.symbols

-- one for each of 32 inlined calls, and one for the function
abbrev pub most_frames : ℕ
most_frames = 33

pub record Content : Type 0 where
  pub text : List ℕ
  pub sections : List Section
  pub symbols : List PublicSymbol
  pub contributions : List SectionContribution
  pub symbols_end : Ending
  pub contributions_end : Ending
  pub start_rows : ℕ
  pub contribution_rows : ℕ
  pub frame_rows : ℕ
  pub address_rows : ℕ
  pub modules : List ModuleRow
  pub parts : PartLists
  pub hidden : List ℕ
  pub questions : List Question

-- a list ends clean, and a table has the size that always suffices, unless something else is said
abbrev pub described : Lists → Content
described a = record {
  text = a.text;
  sections = a.image.sections;
  symbols = a.image.symbols;
  contributions = a.image.contributions;
  symbols_end = unwrap_or a.image.said.symbols_end clean;
  contributions_end = unwrap_or a.image.said.contributions_end clean;
  start_rows = unwrap_or a.image.said.start_rows (starts_at_most a.image);
  contribution_rows = unwrap_or a.image.said.contribution_rows (length a.image.contributions);
  frame_rows = unwrap_or a.image.said.frame_rows most_frames;
  address_rows = unwrap_or a.image.said.address_rows (addresses_at_most a);
  modules = a.modules.modules;
  parts = a.modules.parts;
  hidden = a.hidden;
  questions = a.questions;
}

abbrev pub description_of : List ℕ → Result Content ReadError
description_of text = and_then (text_said text) (λ a. Ok (described a))

abbrev pub content : Description → Content
content d = record {
  text = vec_items d.text;
  sections = vec_items d.image.sections;
  symbols = vec_items d.image.symbols;
  contributions = vec_items d.image.contributions;
  symbols_end = d.symbols_end;
  contributions_end = d.contributions_end;
  start_rows = d.start_rows;
  contribution_rows = d.contribution_rows;
  frame_rows = d.frame_rows;
  address_rows = d.address_rows;
  modules = vec_items d.modules.modules;
  parts = part_lists d.modules.parts;
  hidden = vec_items d.hidden;
  questions = vec_items d.questions;
}

-- what was to be read, or why it cannot be; or memory runs out, which it may do only where `Grows`
abbrev pub Reads : {X Y : Type 0} → Type 0 → (X → Y) → Result X ReadError → Result Y ReadError → Type 0
Reads Grows view (Ok x) wanted = wanted ≡ Ok (view x)
Reads Grows view (Err (At n m)) wanted = wanted ≡ Err (At n m)
Reads Grows view (Err NoMemory) wanted = Grows
