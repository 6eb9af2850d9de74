-- What a row adds to a description. Assumes nothing.
use Rattle.std.specs.Prelude.{if◌then◌else◌, ℕ, true, false, List, [], Some, None, Ok, Err, vec_items, Option}
use Rattle.base.specs.Lists.{Ending, clean}
use Rattle.base.specs.declared.image.PublicSymbol.{PublicSymbol}
use Rattle.base.specs.declared.image.Section.{Section}
use Rattle.base.specs.declared.image.SectionContribution.{SectionContribution}
use Rattle.base.specs.declared.image.SectionOffset.{SectionOffset}
use Rattle.modules.specs.declared.tables.FileRow.{FileRow}
use Rattle.modules.specs.declared.tables.LineList.{LineList}
use Rattle.modules.specs.declared.tables.ModuleRow.{ModuleRow}
use Rattle.modules.specs.declared.tables.RowRange.{RowRange}
use Rattle.modules.specs.declared.tables.SiteList.{SiteList}
use Rattle.provider.specs.declared.symbols.LineRow.{LineRow}
use Rattle.provider.specs.declared.symbols.ModuleState.{ModuleState}
use Rattle.provider.specs.declared.symbols.SiteRow.{SiteRow}
use Rattle.provider.specs.declared.symbols.SymbolRecord.{SymbolRecord}
use Rattle.description.specs.declared.draft.Draft.{Draft}
use Rattle.description.specs.declared.draft.ImageDraft.{ImageDraft}
use Rattle.description.specs.declared.draft.ModuleDraft.{ModuleDraft}
use Rattle.description.specs.declared.mistake.Mistake.{Mistake}
use Rattle.description.specs.declared.mistake.Mistake.TheVariants.{NoModule, NoLines, NoSite, SymbolsEndTwice, ExtrasTwice, PublicsEndTwice, ContributionsEndTwice, TableTwice}
use Rattle.description.specs.declared.question.Question.{Question}
use Rattle.description.specs.declared.row.ImageRow.{ImageRow}
use Rattle.description.specs.declared.row.ImageRow.TheVariants.{Section as SectionRow, Public, Contribution, PublicsEnd, ContributionsEnd, StartTable, ContributionTable, FrameTable, AddressTable}
use Rattle.description.specs.declared.row.ModulePart.{ModulePart}
use Rattle.description.specs.declared.row.ModulePart.TheVariants.{Symbol, SymbolsEnd, Extras, File, Lines, Line, Inlined, Range}
use Rattle.description.specs.declared.row.Row.{Row}
use Rattle.description.specs.declared.row.Row.TheVariants.{Text, Image, Module, Part, Hide, Ask}
use Rattle.description.specs.declared.said.Said.{Said}
use Rattle.description.specs.declared.said.Told.{Told}
use Rattle.description.specs.declared.tables.ListTables.{ListTables}
use Rattle.description.specs.declared.tables.PartTables.{PartTables}
use Rattle.description.specs.Checks.{Checked, and_then}
use Rattle.description.specs.Lists.{pushed, appended, once, newest, grown, part_at}
use Rattle.description.specs.Reading.{Written, line_row}
use Rattle.description.specs.Rows.{named}

-- what is said of an image so far
pub record ImageLists : Type 0 where
  pub sections : List Section
  pub symbols : List PublicSymbol
  pub contributions : List SectionContribution
  pub said : Said

abbrev pub said_nothing : Said
said_nothing = record { symbols_end = None; contributions_end = None; start_rows = None; contribution_rows = None; frame_rows = None; address_rows = None }

abbrev pub image_nothing : ImageLists
image_nothing = record { sections = []; symbols = []; contributions = []; said = said_nothing }

abbrev pub image_lists : ImageDraft → ImageLists
image_lists d = record { sections = vec_items d.tables.sections; symbols = vec_items d.tables.symbols; contributions = vec_items d.tables.contributions; said = d.said }

abbrev pub image_added : ImageRow → ImageLists → Checked ImageLists
image_added (SectionRow s) a = and_then (pushed a.sections s) (λ ss. Ok (record a { sections = ss }))
image_added (Public p) a = and_then (pushed a.symbols p) (λ ps. Ok (record a { symbols = ps }))
image_added (Contribution c) a = and_then (pushed a.contributions c) (λ cs. Ok (record a { contributions = cs }))
image_added (PublicsEnd e) a =
    and_then (once PublicsEndTwice a.said.symbols_end e) (λ o. Ok (record a { said = record a.said { symbols_end = o } }))
image_added (ContributionsEnd e) a =
    and_then (once ContributionsEndTwice a.said.contributions_end e) (λ o. Ok (record a { said = record a.said { contributions_end = o } }))
image_added (StartTable n) a = and_then (once TableTwice a.said.start_rows n) (λ o. Ok (record a { said = record a.said { start_rows = o } }))
image_added (ContributionTable n) a =
    and_then (once TableTwice a.said.contribution_rows n) (λ o. Ok (record a { said = record a.said { contribution_rows = o } }))
image_added (FrameTable n) a = and_then (once TableTwice a.said.frame_rows n) (λ o. Ok (record a { said = record a.said { frame_rows = o } }))
image_added (AddressTable n) a = and_then (once TableTwice a.said.address_rows n) (λ o. Ok (record a { said = record a.said { address_rows = o } }))

-- lists of rows: a list names its part of the rows
pub record Parted (L R : Type 0) : Type 0 where
  pub lists : List L
  pub rows : List R

abbrev pub parted_nothing : {L R : Type 0} → Parted L R
parted_nothing = record { lists = []; rows = [] }

abbrev pub parted : {L R : Type 0} → ListTables L R → Parted L R
parted t = record { lists = vec_items t.lists; rows = vec_items t.rows }

abbrev pub list_begun : {L R : Type 0} → (RowRange → L) → Parted L R → Checked (Parted L R)
list_begun head a = and_then (pushed a.lists (head (part_at a.rows))) (λ ls. Ok (record a { lists = ls }))

-- one row more, which belongs to the newest list
abbrev pub list_grown : {L R : Type 0} → Mistake → (L → Checked L) → R → Parted L R → Checked (Parted L R)
list_grown none longer r a =
    and_then (newest none a.lists) (λ q. and_then (longer q.1) (λ l. and_then (pushed q.0 l) (λ ls. and_then (pushed a.rows r) (λ rs. Ok (record { lists = ls; rows = rs })))))

abbrev pub new_site : ℕ → SectionOffset → Ending → RowRange → SiteList
new_site s o e p = record { site = s; start = o; rows = p; ending = e }

abbrev pub new_lines : SectionOffset → Ending → RowRange → LineList
new_lines o e p = record { start = o; rows = p; ending = e }

abbrev pub longer_site : SiteList → Checked SiteList
longer_site l = and_then (grown l.rows) (λ p. Ok (record l { rows = p }))

abbrev pub longer_lines : LineList → Checked LineList
longer_lines l = and_then (grown l.rows) (λ p. Ok (record l { rows = p }))

-- what the modules have parts of
pub record PartLists : Type 0 where
  pub symbols : List SymbolRecord
  pub files : List FileRow
  pub sites : Parted SiteList SiteRow
  pub lines : Parted LineList LineRow

abbrev pub parts_nothing : PartLists
parts_nothing = record { symbols = []; files = []; sites = parted_nothing; lines = parted_nothing }

abbrev pub part_lists : PartTables → PartLists
part_lists t = record { symbols = vec_items t.symbols; files = vec_items t.files; sites = parted t.sites; lines = parted t.lines }

-- the lists, with a part more of the newest module
abbrev pub part_pushed : ModulePart → PartLists → Checked PartLists
part_pushed (Symbol r) a = and_then (pushed a.symbols r) (λ rs. Ok (record a { symbols = rs }))
part_pushed (File f) a = and_then (pushed a.files f) (λ fs. Ok (record a { files = fs }))
part_pushed (Lines o e) a = and_then (list_begun (new_lines o e) a.lines) (λ ls. Ok (record a { lines = ls }))
part_pushed (Line l) a = and_then (list_grown NoLines longer_lines l a.lines) (λ ls. Ok (record a { lines = ls }))
part_pushed (Inlined s o e) a = and_then (list_begun (new_site s o e) a.sites) (λ ls. Ok (record a { sites = ls }))
part_pushed (Range r) a = and_then (list_grown NoSite longer_site r a.sites) (λ ls. Ok (record a { sites = ls }))
part_pushed p a = Ok a

abbrev pub told_nothing : Told
told_nothing = record { symbols_end = false; extras = false; sites = false; lines = false }

-- what was said of the newest module, and now the part too, unless that cannot come
abbrev pub told_with : ModulePart → Told → Checked Told
told_with (SymbolsEnd e) t = if t.symbols_end then Err SymbolsEndTwice else Ok (record t { symbols_end = true })
told_with (Extras e) t = if t.extras then Err ExtrasTwice else Ok (record t { extras = true })
told_with (Lines o e) t = Ok (record t { lines = true })
told_with (Line l) t = if t.lines then Ok t else Err NoLines
told_with (Inlined s o e) t = Ok (record t { sites = true })
told_with (Range r) t = if t.sites then Ok t else Err NoSite
told_with p t = Ok t

-- a module of no rows yet
abbrev pub new_module : ModuleState → PartLists → ModuleRow
new_module s a = record {
  state = s;
  symbols = part_at a.symbols;
  symbols_end = clean;
  extras = clean;
  site_lists = part_at a.sites.lists;
  line_lists = part_at a.lines.lists;
  files = part_at a.files;
}

-- the newest module, with a part more
abbrev pub module_with : ModulePart → ModuleRow → Checked ModuleRow
module_with (Symbol r) m = and_then (grown m.symbols) (λ p. Ok (record m { symbols = p }))
module_with (SymbolsEnd e) m = Ok (record m { symbols_end = e })
module_with (Extras e) m = Ok (record m { extras = e })
module_with (File f) m = and_then (grown m.files) (λ p. Ok (record m { files = p }))
module_with (Lines o e) m = and_then (grown m.line_lists) (λ p. Ok (record m { line_lists = p }))
module_with (Inlined s o e) m = and_then (grown m.site_lists) (λ p. Ok (record m { site_lists = p }))
module_with p m = Ok m

-- what is said of modules so far
pub record ModuleLists : Type 0 where
  pub modules : List ModuleRow
  pub told : Told
  pub parts : PartLists

abbrev pub modules_nothing : ModuleLists
modules_nothing = record { modules = []; told = told_nothing; parts = parts_nothing }

abbrev pub module_lists : ModuleDraft → ModuleLists
module_lists d = record { modules = vec_items d.tables.modules; told = d.told; parts = part_lists d.tables.parts }

abbrev pub module_opened : ModuleState → ModuleLists → Checked ModuleLists
module_opened s a = and_then (pushed a.modules (new_module s a.parts)) (λ ms. Ok (record a { modules = ms; told = told_nothing }))

-- a part more of the newest module
abbrev pub module_grown : ModulePart → ModuleLists → Checked ModuleLists
module_grown p a =
    and_then (newest NoModule a.modules) (λ q. and_then (told_with p a.told) (λ t. and_then (module_with p q.1) (λ m. and_then (pushed q.0 m) (λ ms. and_then (part_pushed p a.parts) (λ ps. Ok (record { modules = ms; told = t; parts = ps }))))))

-- what is said so far
pub record Lists : Type 0 where
  pub text : List ℕ
  pub image : ImageLists
  pub modules : ModuleLists
  pub hidden : List ℕ
  pub questions : List Question

abbrev pub nothing : Lists
nothing = record { text = []; image = image_nothing; modules = modules_nothing; hidden = []; questions = [] }

abbrev pub lists : Draft → Lists
lists d = record { text = vec_items d.text; image = image_lists d.image; modules = module_lists d.modules; hidden = vec_items d.hidden; questions = vec_items d.questions }

abbrev pub row_added : Row → Lists → Checked Lists
row_added Text a = Ok a
row_added (Image r) a = and_then (image_added r a.image) (λ i. Ok (record a { image = i }))
row_added (Module s) a = and_then (module_opened s a.modules) (λ m. Ok (record a { modules = m }))
row_added (Part p) a = and_then (module_grown p a.modules) (λ m. Ok (record a { modules = m }))
row_added (Hide n) a = and_then (pushed a.hidden n) (λ ns. Ok (record a { hidden = ns }))
row_added (Ask q) a = and_then (pushed a.questions q) (λ qs. Ok (record a { questions = qs }))

-- what stands in quotes goes into the text first, and is the row's name
abbrev pub row_said : Row → Option (List ℕ) → Lists → Checked Lists
row_said r None a = row_added r a
row_said r (Some raw) a = and_then (appended raw a.text) (λ q. row_added (named q.1 r) (record a { text = q.0 }))

abbrev pub written_said : Option Written → Lists → Checked Lists
written_said None a = Ok a
written_said (Some w) a = row_said w.row w.quoted a

-- what a line adds to what is said so far
unfoldable pub line_said : List ℕ → Lists → Checked Lists
line_said line a = and_then (line_row line) (λ o. written_said o a)
