-- Each refusal's number, its step, and the item and the module that it names. Assumes nothing.
use Rattle.std.specs.Prelude.{ℕ, Some, None, Option, Ok, Err, Result}
use Rattle.base.specs.declared.image.FaultCode.{FaultCode}
use Rattle.base.specs.declared.refusal.Step.{Step}
use Rattle.base.specs.declared.refusal.Step.TheVariants.{Opening, CheckSections, ReadPublicSymbols, ReadContributions, CheckOverlaps, ReadModule, ReadExtras, ReadLineRows, WalkSites, ListFunctions, WriteFrames}
use Rattle.base.specs.declared.refusal.FaultyList.{FaultyList}
use Rattle.base.specs.declared.refusal.FaultyList.TheVariants.{PublicSymbols, Contributions, Extras, LineRows}
use Rattle.base.specs.declared.refusal.Refusal.{Refusal}
use Rattle.base.specs.declared.refusal.Refusal.TheVariants.{StartTableFull, ContributionTableFull, FrameTableShort, AddressTableFull, TooManyHidden, BadRow, SectionOutside, ContributionOutside, Unordered, Overlapping, ProcedureOutside, TooManyProcedures, RangeOutside, SitesTooDeep, TooManyRanges, Fault}

abbrev pub number_of : Refusal → ℕ
number_of (StartTableFull step) = 1
number_of ContributionTableFull = 2
number_of (FrameTableShort needed) = 3
number_of AddressTableFull = 4
number_of TooManyHidden = 5
number_of (BadRow table row) = 6
number_of (SectionOutside item) = 7
number_of (ContributionOutside item) = 8
number_of (Unordered item m section) = 9
number_of (Overlapping section one two) = 10
number_of (ProcedureOutside m item) = 11
number_of (TooManyProcedures m item) = 12
number_of (RangeOutside m item) = 13
number_of (SitesTooDeep m item) = 14
number_of (TooManyRanges m) = 15
number_of (Fault list code) = 16

abbrev pub list_step : FaultyList → Step
list_step PublicSymbols = ReadPublicSymbols
list_step Contributions = ReadContributions
list_step (Extras m) = ReadExtras
list_step (LineRows m) = ReadLineRows

abbrev pub list_module : FaultyList → Option ℕ
list_module PublicSymbols = None
list_module Contributions = None
list_module (Extras m) = Some m
list_module (LineRows m) = Some m

abbrev pub step_of : Refusal → Step
step_of (StartTableFull step) = step
step_of ContributionTableFull = ReadContributions
step_of (FrameTableShort needed) = WriteFrames
step_of AddressTableFull = ListFunctions
step_of TooManyHidden = Opening
step_of (BadRow table row) = Opening
step_of (SectionOutside item) = CheckSections
step_of (ContributionOutside item) = ReadContributions
step_of (Unordered item m section) = ReadContributions
step_of (Overlapping section one two) = CheckOverlaps
step_of (ProcedureOutside m item) = ReadModule
step_of (TooManyProcedures m item) = ReadModule
step_of (RangeOutside m item) = WalkSites
step_of (SitesTooDeep m item) = WalkSites
step_of (TooManyRanges m) = WalkSites
step_of (Fault list code) = list_step list

-- the item that the refusal names, where it names one
abbrev pub item_of : Refusal → Option ℕ
item_of (StartTableFull step) = None
item_of ContributionTableFull = None
item_of (FrameTableShort needed) = None
item_of AddressTableFull = None
item_of TooManyHidden = None
item_of (BadRow table row) = None
item_of (SectionOutside item) = Some item
item_of (ContributionOutside item) = Some item
item_of (Unordered item m section) = Some item
item_of (Overlapping section one two) = None
item_of (ProcedureOutside m item) = Some item
item_of (TooManyProcedures m item) = Some item
item_of (RangeOutside m item) = Some item
item_of (SitesTooDeep m item) = Some item
item_of (TooManyRanges m) = None
item_of (Fault list code) = None

-- the one module that the refusal names, where it names one
abbrev pub module_of : Refusal → Option ℕ
module_of (StartTableFull step) = None
module_of ContributionTableFull = None
module_of (FrameTableShort needed) = None
module_of AddressTableFull = None
module_of TooManyHidden = None
module_of (BadRow table row) = None
module_of (SectionOutside item) = None
module_of (ContributionOutside item) = None
module_of (Unordered item m section) = Some m
module_of (Overlapping section one two) = None
module_of (ProcedureOutside m item) = Some m
module_of (TooManyProcedures m item) = Some m
module_of (RangeOutside m item) = Some m
module_of (SitesTooDeep m item) = Some m
module_of (TooManyRanges m) = Some m
module_of (Fault list code) = list_module list

-- a list's answer, its fault as a refusal
abbrev pub or_refusal : {X : Type 0} → FaultyList → Result X FaultCode → Result X Refusal
or_refusal list (Ok x) = Ok x
or_refusal list (Err code) = Err (Fault list code)
