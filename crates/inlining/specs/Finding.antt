-- The frames of an address. Assumes nothing.
use Rattle.std.specs.Prelude.{ℕ, ◌-◌, cond, List, [], ◌∷◌, ◌++◌, map, reverse, length, drop, Some, None, Ok, Err, Option, Result, nat_lt}
use Rattle.std.specs.Option.{option_map}
use Rattle.base.specs.declared.image.SectionOffset.{SectionOffset}
use Rattle.base.specs.declared.refusal.Refusal.{Refusal}
use Rattle.base.specs.declared.refusal.Refusal.TheVariants.{FrameTableShort}
use Rattle.base.specs.declared.refusal.FaultyList.TheVariants.{Extras}
use Rattle.base.specs.Refusals.{or_refusal}
use Rattle.building.specs.Outcome.{Built}
use Rattle.provider.specs.Modules.{Modules, Module, content}
use Rattle.provider.specs.declared.symbols.LineRow.{LineRow}
use Rattle.procedures.specs.declared.row.Procedure.{Procedure}
use Rattle.procedures.specs.declared.function.Location.{Location}
use Rattle.procedures.specs.declared.function.Function.{Function}
use Rattle.procedures.specs.declared.name.NameRow.TheVariants.{Id}
use Rattle.lookup.specs.Reading.{Shelved, bears, shelve}
use Rattle.lookup.specs.Places.{locate}
use Rattle.lookup.specs.Finding.{chosen, by_choice}
use Rattle.frames.specs.declared.frame.FrameFile.{FrameFile}
use Rattle.frames.specs.declared.frame.Frame.{Frame}
use Rattle.frames.specs.declared.frame.FunctionFrames.{FunctionFrames}
use Rattle.frames.specs.declared.range.InlineRange.{InlineRange}
use Rattle.inlining.specs.Steps.{then}
use Rattle.inlining.specs.Choice.{line_at}
use Rattle.inlining.specs.Ranges.{ranges_of, inlined_at}

-- a file's number, and its name in the module
abbrev pub file_in : Module → ℕ → FrameFile
file_in x number = record { number = number; name = x.file number }

-- the frame of the function itself, with the file and line of a row
abbrev pub function_frame : Module → Function → Option LineRow → Frame
function_frame x f None = record { name = f.name; file = None; line = None }
function_frame x f (Some row) = record { name = f.name; file = Some (file_in x row.file); line = Some row.line }

-- the frame of an inlined call
abbrev pub inline_frame : ℕ → Module → InlineRange → Frame
inline_frame m x r = record { name = Id m r.inlinee; file = option_map (file_in x) r.file; line = r.line }

-- where a function starts, as a place in the section of its location
abbrev pub start_of : Location → Function → SectionOffset
start_of l f = record { section = l.offset.section; offset = f.start_rva - l.base }

-- the calls that are inlined at a place of the chosen procedure, the outermost first
abbrev pub inlined_calls : ℕ → Module → ℕ → Option Procedure → Result (List InlineRange) Refusal
inlined_calls m x place None = Ok []
inlined_calls m x place (Some p) = then (ranges_of m x p) (λ rs. Ok (inlined_at place rs))

-- the frames of a function at a location in a module with information, the innermost first
abbrev pub informed_frames : ℕ → Module → Location → Option Procedure → Function → Result (List Frame) Refusal
informed_frames m x l choice f =
    then (or_refusal (Extras m) x.extras) (λ u.
    then (line_at m (x.line_rows (start_of l f)) l.offset.offset) (λ row.
    then (inlined_calls m x l.offset.offset choice) (λ calls.
    Ok (reverse (map (inline_frame m x) calls) ++ function_frame x f row ∷ []))))

-- without information there is the function alone
abbrev pub frames_of : Modules → Location → Shelved → Option Procedure → Function → Result (List Frame) Refusal
frames_of ms l s choice f =
    let m = l.contribution.«module» in
    let x = content (ms.at m) in
    cond (bears m s.holder) (informed_frames m x l choice f) (Ok (function_frame x f None ∷ []))

-- an answer, and the table and the shelf that it leaves
pub record FoundFrames : Type 0 where
  pub answer : Result (Option FunctionFrames) Refusal
  pub table : List Frame
  pub shelf : Shelved

-- what writing answers, and the table that it leaves
pub record Written : Type 0 where
  pub answer : Result FunctionFrames Refusal
  pub table : List Frame

-- frames come into a table from its first row on, if it is long enough
abbrev pub fitted : List Frame → Function → List Frame → Written
fitted table f frames =
    cond (nat_lt (length table) (length frames))
    (record { answer = Err (FrameTableShort (length frames)); table = table })
    (record {
      answer = Ok (record { start_rva = f.start_rva; end_rva = f.end_rva; frames = length frames });
      table = frames ++ drop (length frames) table;
    })

abbrev pub written : List Frame → Function → Result (List Frame) Refusal → Written
written table f (Err e) = record { answer = Err e; table = table }
written table f (Ok frames) = fitted table f frames

abbrev pub found_or : Result FunctionFrames Refusal → Result (Option FunctionFrames) Refusal
found_or (Err e) = Err e
found_or (Ok f) = Ok (Some f)

abbrev pub chosen_frames : Modules → Location → List Frame → Shelved → Option Procedure → Option Function → FoundFrames
chosen_frames ms l table s choice None = record { answer = Ok None; table = table; shelf = s }
chosen_frames ms l table s choice (Some f) = let w = written table f (frames_of ms l s choice f) in record { answer = found_or w.answer; table = w.table; shelf = s }

abbrev pub shelved_frames : List ℕ → Modules → Built → Location → List Frame → Option Refusal → Shelved → FoundFrames
shelved_frames text ms c l table (Some e) s = record { answer = Err e; table = table; shelf = s }
shelved_frames text ms c l table None s =
    let choice = chosen l.offset s.procedures in chosen_frames ms l table s choice (by_choice text c.starts l choice)

abbrev pub find_located_frames : List ℕ → Modules → Built → Option Location → List Frame → Shelved → FoundFrames
find_located_frames text ms c None table s = record { answer = Ok None; table = table; shelf = s }
find_located_frames text ms c (Some l) table s =
    let w = shelve ms l.contribution.«module» s in shelved_frames text ms c l table w.refusal w.shelf

-- what is answered for an address by a resolver whose shelf holds s, and what it leaves in a table
abbrev pub find_frames : List ℕ → Modules → Built → ℕ → List Frame → Shelved → FoundFrames
find_frames text ms c a table s = find_located_frames text ms c (locate c a) table s
