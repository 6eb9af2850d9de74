-- How a refusal reads: what is refused, at which step, and then each thing that the refusal names. Assumes nothing.
use Rattle.std.specs.Prelude.{ℕ, List, [], ◌++◌, codes, decimal, Some, None, Option}
use Prim.Native.String.{String}
use Rattle.base.specs.declared.refusal.Step.{Step}
use Rattle.base.specs.declared.refusal.Step.TheVariants.{Opening, CheckSections, ReadPublicSymbols, ReadContributions, CheckOverlaps, AddSectionEnds, ReadModule, ReadExtras, ReadLineRows, WalkSites, ListFunctions, WriteFrames}
use Rattle.base.specs.declared.refusal.FaultyList.{FaultyList}
use Rattle.base.specs.declared.refusal.FaultyList.TheVariants.{PublicSymbols, Contributions, Extras, LineRows}
use Rattle.base.specs.declared.refusal.RowTable.{RowTable}
use Rattle.base.specs.declared.refusal.RowTable.TheVariants.{Sections, PublicSymbolRows, ContributionRows, Modules, Records, SiteLists, SiteRows, LineLists, LineRowRows, Files}
use Rattle.base.specs.declared.refusal.Refusal.{Refusal}
use Rattle.base.specs.declared.refusal.Refusal.TheVariants.{StartTableFull, ContributionTableFull, FrameTableShort, AddressTableFull, TooManyHidden, BadRow, SectionOutside, ContributionOutside, Unordered, Overlapping, ProcedureOutside, TooManyProcedures, RangeOutside, SitesTooDeep, TooManyRanges, Fault}
use Rattle.base.specs.Refusals.{step_of, item_of, module_of}

abbrev pub step_text : Step → List ℕ
step_text Opening = codes "opening"
step_text CheckSections = codes "checking the sections"
step_text ReadPublicSymbols = codes "reading the public symbols"
step_text ReadContributions = codes "reading the contributions"
step_text CheckOverlaps = codes "checking for overlaps"
step_text AddSectionEnds = codes "adding the section ends"
step_text ReadModule = codes "reading the module"
step_text ReadExtras = codes "reading the extras"
step_text ReadLineRows = codes "reading the line rows"
step_text WalkSites = codes "walking the sites"
step_text ListFunctions = codes "listing the functions"
step_text WriteFrames = codes "writing the frames"

abbrev pub list_text : FaultyList → List ℕ
list_text PublicSymbols = codes "public symbols"
list_text Contributions = codes "contributions"
list_text (Extras m) = codes "extras"
list_text (LineRows m) = codes "line rows"

abbrev pub table_text : RowTable → List ℕ
table_text Sections = codes "sections"
table_text PublicSymbolRows = codes "public symbols"
table_text ContributionRows = codes "contributions"
table_text Modules = codes "modules"
table_text Records = codes "records"
table_text SiteLists = codes "site lists"
table_text SiteRows = codes "sites"
table_text LineLists = codes "line lists"
table_text LineRowRows = codes "line rows"
table_text Files = codes "files"

abbrev pub reason : Refusal → List ℕ
reason (StartTableFull step) = codes "the table of starts is full"
reason ContributionTableFull = codes "the table of contributions is full"
reason (FrameTableShort needed) = codes "the table of frames is too short"
reason AddressTableFull = codes "the table of addresses is full"
reason TooManyHidden = codes "more than 64 hidden modules"
reason (BadRow table row) = codes "a row that no source may hold"
reason (SectionOutside item) = codes "a section past the 96th, or one that ends above 4294967295"
reason (ContributionOutside item) = codes "a contribution that ends above 4294967295"
reason (Unordered item m section) = codes "a contribution that starts below the start of its block, or ends below its end"
reason (Overlapping section one two) = codes "two contributions that overlap"
reason (ProcedureOutside m item) = codes "a procedure that ends above 4294967295"
reason (TooManyProcedures m item) = codes "a procedure past the 1024th offset of its module"
reason (RangeOutside m item) = codes "a range that ends above 4294967295"
reason (SitesTooDeep m item) = codes "a site at depth 32"
reason (TooManyRanges m) = codes "more than 1024 ranges"
reason (Fault list code) = codes "a fault of the source"

-- a number behind its name, where there is one
abbrev pub numbered : String → Option ℕ → List ℕ
numbered name None = []
numbered name (Some n) = codes name ++ decimal n

-- what only some refusals name
abbrev pub details : Refusal → List ℕ
details (FrameTableShort needed) = codes ", rows needed " ++ decimal needed
details (BadRow table row) = codes ", table " ++ table_text table ++ codes ", row " ++ decimal row
details (Unordered item m section) = codes ", section " ++ decimal section
details (Overlapping section one two) = codes ", modules " ++ decimal one ++ codes " and " ++ decimal two ++ codes ", section " ++ decimal section
details (Fault list code) = codes ", code " ++ decimal code.0 ++ codes ", list " ++ list_text list
details r = []

abbrev pub refusal_text : Refusal → List ℕ
refusal_text r = reason r ++ codes ", at " ++ step_text (step_of r) ++ numbered ", item " (item_of r) ++ numbered ", module " (module_of r) ++ details r
