-- Which row a line is: what stands on it, word by word. Assumes nothing.
use Rattle.std.specs.Prelude.{if◌then◌else◌, ℕ, Bool, true, false, List, Some, None, Ok, Err, Option}
use Rattle.std.specs.Option.{option_map}
use Rattle.base.specs.declared.image.PublicSymbol.{PublicSymbol}
use Rattle.base.specs.declared.image.Section.{Section}
use Rattle.base.specs.declared.image.SectionContribution.{SectionContribution}
use Rattle.provider.specs.declared.symbols.ModuleState.{ModuleState}
use Rattle.provider.specs.declared.symbols.ModuleState.TheVariants.{Present, Absent, Broken}
use Rattle.provider.specs.declared.symbols.Symbol.{Symbol}
use Rattle.provider.specs.declared.symbols.Symbol.TheVariants.{Procedure, Thunk, SeparatedCode, InlineSite, Other}
use Rattle.provider.specs.declared.symbols.SymbolRecord.{SymbolRecord}
use Rattle.description.specs.declared.mistake.Mistake.TheVariants.{UnknownRow, ModuleTooLarge, ThunkTooLong, NotAKind, NotATable, NotAState}
use Rattle.description.specs.declared.question.Question.{Question}
use Rattle.description.specs.declared.question.Question.TheVariants.{Find, Frames, List as Listed, Same}
use Rattle.description.specs.declared.row.ImageRow.{ImageRow}
use Rattle.description.specs.declared.row.ImageRow.TheVariants.{Section as SectionRow, Public, Contribution, PublicsEnd, ContributionsEnd, StartTable, ContributionTable, FrameTable, AddressTable}
use Rattle.description.specs.declared.row.Line.{Line as RowLine}
use Rattle.description.specs.declared.row.ModulePart.{ModulePart}
use Rattle.description.specs.declared.row.ModulePart.TheVariants.{Symbol as SymbolPart, SymbolsEnd, Extras, File, Lines, Line, Inlined, Range}
use Rattle.description.specs.declared.row.Row.{Row}
use Rattle.description.specs.declared.row.Row.TheVariants.{Text, Image, Module, Part, Hide, Ask}
use Rattle.description.specs.Checks.{Checked, and_then}
use Rattle.description.specs.Words.{is, keyword_of}
use Rattle.description.specs.Fields.{Rest, whole, Field, given, wrong, and, into, Token, plain_word, quoted_word, next, keyword, end, number, small_number, size, offset, name, text, length, ending, extras, list_ending}

abbrev pub kind_of : List ℕ → Field Bool
kind_of w = if is "executable" w then given true else if is "data" w then given false else wrong NotAKind

abbrev pub kind : Field Bool
kind = and keyword kind_of

abbrev pub section : Field Section
section = and number (λ a. and number (λ s. and kind (λ e. given (record { address = a; size = s; executable = e }))))

abbrev pub public : Field PublicSymbol
public = and offset (λ o. and name (λ n. given (record { offset = o; name = n })))

abbrev pub contribution : Field SectionContribution
contribution = and offset (λ o. and number (λ s. and (small_number ModuleTooLarge) (λ m. given (record { offset = o; size = s; «module» = m }))))

abbrev pub table_of : List ℕ → Field ImageRow
table_of w =
    if is "starts" w then into size StartTable
    else if is "contributions" w then into size ContributionTable
    else if is "frames" w then into size FrameTable
    else if is "addresses" w then into size AddressTable
    else wrong NotATable

abbrev pub table : Field ImageRow
table = and keyword table_of

abbrev pub state_of : List ℕ → Field ModuleState
state_of w =
    if is "present" w then given Present
    else if is "absent" w then given Absent
    else if is "broken" w then given Broken
    else wrong NotAState

abbrev pub module_state : Field ModuleState
module_state = and keyword state_of

-- a symbol record, with its index in front
abbrev pub indexed : Field Symbol → Field SymbolRecord
indexed f = and number (λ i. and f (λ s. given (record { index = i; symbol = s })))

abbrev pub procedure : Field Symbol
procedure =
    and offset (λ o. and number (λ n. and number (λ e. and number (λ t. and name (λ m. given (Procedure o n e t m))))))

abbrev pub thunk : Field Symbol
thunk = and offset (λ o. and (small_number ThunkTooLong) (λ n. and number (λ e. and name (λ m. given (Thunk o n e m)))))

abbrev pub separated : Field Symbol
separated = and offset (λ o. and number (λ n. and number (λ e. and offset (λ p. given (SeparatedCode o n e p)))))

abbrev pub site : Field Symbol
site = and number (λ i. and number (λ e. given (InlineSite i e)))

unfoldable pub record_of : List ℕ → Field SymbolRecord
record_of w =
    if is "procedure" w then indexed procedure
    else if is "thunk" w then indexed thunk
    else if is "separated" w then indexed separated
    else if is "site" w then indexed site
    else if is "other" w then indexed (given Other)
    else wrong UnknownRow

abbrev pub file : Field ModulePart
file = and number (λ i. and name (λ n. given (File (record { number = i; name = n }))))

abbrev pub lines : Field ModulePart
lines = and offset (λ o. and list_ending (λ e. given (Lines o e)))

abbrev pub line : Field ModulePart
line = and number (λ o. and number (λ f. and number (λ l. given (Line (record { offset = o; file = f; line = l })))))

abbrev pub inlined : Field ModulePart
inlined = and number (λ s. and offset (λ o. and list_ending (λ e. given (Inlined s o e))))

abbrev pub range : Field ModulePart
range =
    and number (λ o. and length (λ n. and number (λ f. and number (λ l. given (Range (record { offset = o; length = n; file = f; line = l }))))))

unfoldable pub part_of : List ℕ → Field ModulePart
part_of w =
    if is "symbols" w then into ending SymbolsEnd
    else if is "extras" w then into extras Extras
    else if is "file" w then file
    else if is "lines" w then lines
    else if is "line" w then line
    else if is "inlined" w then inlined
    else if is "range" w then range
    else into (record_of w) SymbolPart

unfoldable pub image_row_of : List ℕ → Field Row
image_row_of w =
    if is "section" w then into section (λ s. Image (SectionRow s))
    else if is "public" w then into public (λ p. Image (Public p))
    else if is "contribution" w then into contribution (λ c. Image (Contribution c))
    else if is "publics" w then into ending (λ e. Image (PublicsEnd e))
    else if is "contributions" w then into ending (λ e. Image (ContributionsEnd e))
    else if is "table" w then into table Image
    else into (part_of w) Part

abbrev pub same : Field Question
same = and number (λ a. and number (λ b. given (Same a b)))

-- the row that begins with a word
abbrev pub row_of : List ℕ → Field Row
row_of w =
    if is "text" w then into text (λ _. Text)
    else if is "module" w then into module_state Module
    else if is "hide" w then into (small_number ModuleTooLarge) Hide
    else if is "find" w then into number (λ a. Ask (Find a))
    else if is "frames" w then into number (λ a. Ask (Frames a))
    else if is "list" w then given (Ask Listed)
    else if is "same" w then into same Ask
    else image_row_of w

abbrev pub row : Token → Field Row
row (plain_word w) = row_of (keyword_of w)
row (quoted_word w) = wrong UnknownRow

-- a row, and the bytes that stand on its line in quotes
pub record Written : Type 0 where
  pub row : Row
  pub quoted : Option (List ℕ)

abbrev pub whole_row : Option Token → Rest → Checked (Option Written)
whole_row None r = Ok None
whole_row (Some t) r = and_then (and (row t) (λ x. into end (λ _. x)) r) (λ p. Ok (Some (record { row = p.0; quoted = p.1.quoted })))

-- the row of a line, or none where it is blank
abbrev pub line_row : List ℕ → Checked (Option Written)
line_row cs = and_then (next (whole cs)) (λ p. whole_row p.0 p.1)

-- what the code has read
abbrev pub written : RowLine → Written
written l = record { row = l.row; quoted = option_map (λ w. w.now) l.quoted }

abbrev pub read_as : Checked (Option RowLine) → Checked (Option Written)
read_as (Ok o) = Ok (option_map written o)
read_as (Err m) = Err m
