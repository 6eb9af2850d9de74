-- What is known of a place in a function, and the frames that follow from it. Assumes nothing.
use Rattle.std.specs.Prelude.{ℕ, cond, List, [], ◌∷◌, ◌++◌, map, reverse, None, Ok, Option, Result}
use Rattle.base.specs.declared.image.SectionOffset.{SectionOffset}
use Rattle.base.specs.declared.refusal.Refusal.{Refusal}
use Rattle.base.specs.declared.refusal.FaultyList.TheVariants.{Extras}
use Rattle.base.specs.Refusals.{or_refusal}
use Rattle.provider.specs.Modules.{Modules, Module, content}
use Rattle.provider.specs.declared.symbols.LineRow.{LineRow}
use Rattle.procedures.specs.declared.row.Procedure.{Procedure}
use Rattle.procedures.specs.declared.function.Location.{Location}
use Rattle.procedures.specs.declared.function.Function.{Function}
use Rattle.lookup.specs.Reading.{Shelved, bears}
use Rattle.frames.specs.declared.frame.Frame.{Frame}
use Rattle.frames.specs.declared.range.InlineRange.{InlineRange}
use Rattle.inlining.specs.Steps.{then}
use Rattle.inlining.specs.Choice.{line_at}
use Rattle.inlining.specs.Finding.{start_of, inlined_calls, inline_frame, function_frame}
use Rattle.ranges.specs.Held.{calls}
use Rattle.stack.specs.declared.stack.Stack.{Stack}

-- the row that tells the function's file and line, and the calls that are inlined, the outermost first
pub record Known : Type 0 where
  pub line : Option LineRow
  pub inlined : List InlineRange

abbrev pub nothing_known : Known
nothing_known = record { line = None; inlined = [] }

-- what a module with information tells of a place in the function that starts at an offset
abbrev pub known : ℕ → Module → SectionOffset → ℕ → Option Procedure → Result Known Refusal
known m x start place choice =
    then (or_refusal (Extras m) x.extras) (λ u.
    then (line_at m (x.line_rows start) place) (λ row.
    then (inlined_calls m x place choice) (λ calls. Ok (record { line = row; inlined = calls }))))

abbrev pub told : Stack → Known
told s = record { line = s.line; inlined = calls s.calls }

-- the innermost call first, the function last
abbrev pub frames_from : ℕ → Module → Function → Known → List Frame
frames_from m x f k = reverse (map (inline_frame m x) k.inlined) ++ function_frame x f k.line ∷ []

-- without information nothing is known
abbrev pub known_at : Modules → Location → Function → Option Procedure → Shelved → Result Known Refusal
known_at ms l f choice s =
    let m = l.contribution.«module» in cond (bears m s.holder) (known m (content (ms.at m)) (start_of l f) l.offset.offset choice) (Ok nothing_known)
