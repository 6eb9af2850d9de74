-- The frames are those that follow from what is known. Assumes nothing.
use Rattle.std.proofs.Common.{◌≡◌, ℕ, Bool, true, false, cond, List, [], ◌∷◌, ◌++◌, map, reverse, Ok, Err, Option, Result, sym, refl, ap, ◌∙◌}
use Rattle.base.specs.declared.refusal.Refusal.{Refusal}
use Rattle.base.specs.declared.refusal.FaultyList.TheVariants.{Extras}
use Rattle.base.specs.Refusals.{or_refusal}
use Rattle.provider.specs.Modules.{Modules, Module, content}
use Rattle.provider.specs.declared.symbols.LineRow.{LineRow}
use Rattle.procedures.specs.declared.row.Procedure.{Procedure}
use Rattle.procedures.specs.declared.function.Location.{Location}
use Rattle.procedures.specs.declared.function.Function.{Function}
use Rattle.lookup.specs.Reading.{Shelved, bears}
use Rattle.frames.specs.declared.frame.Frame.{Frame}
use Rattle.frames.specs.declared.range.InlineRange.{InlineRange}
use Rattle.inlining.specs.Steps.{then as and_then}
use Rattle.inlining.specs.Choice.{line_at}
use Rattle.inlining.specs.Finding.{start_of, inlined_calls, inline_frame, function_frame, informed_frames, frames_of, written, fitted}
use Rattle.stack.specs.Known.{Known, known, known_at, nothing_known, told, frames_from}
use Rattle.stack.specs.declared.stack.Stack.{Stack}

-- one step after another, and then one more
and_then_assoc : {X Y Z : Type 0} (r : Result X Refusal) (f : X → Result Y Refusal) (g : Y → Result Z Refusal) → and_then (and_then r f) g ≡ and_then r (λ x. and_then (f x) g)
and_then_assoc (Ok x) f g = refl
and_then_assoc (Err e) f g = refl

module _ (m : ℕ) (x : Module) (l : Location) (choice : Option Procedure) (f : Function) where
  abbrev frames : Known → Result (List Frame) Refusal
  frames k = Ok (frames_from m x f k)

  with_calls : (row : Option LineRow) (r : Result (List InlineRange) Refusal) → and_then r (λ calls. Ok (reverse (map (inline_frame m x) calls) ++ function_frame x f row ∷ [])) ≡ and_then (and_then r (λ calls. Ok (record { line = row; inlined = calls }))) frames
  with_calls row (Ok calls) = refl
  with_calls row (Err e) = refl

  with_line : (r : Result (Option LineRow) Refusal) → and_then r (λ row. and_then (inlined_calls m x l.offset.offset choice) (λ calls. Ok (reverse (map (inline_frame m x) calls) ++ function_frame x f row ∷ []))) ≡ and_then (and_then r (λ row. and_then (inlined_calls m x l.offset.offset choice) (λ calls. Ok (record { line = row; inlined = calls })))) frames
  with_line (Ok row) = with_calls row (inlined_calls m x l.offset.offset choice)
  with_line (Err e) = refl

  informed : informed_frames m x l choice f ≡ and_then (known m x (start_of l f) l.offset.offset choice) frames
  informed = go (or_refusal (Extras m) x.extras) _ frames (with_line (line_at m (x.line_rows (start_of l f)) l.offset.offset))
    where
      go : {Y Z : Type 0} {a : Result Z Refusal} {X : Type 0} (r : Result X Refusal) (b : Result Y Refusal) (h : Y → Result Z Refusal) → a ≡ and_then b h → and_then r (λ u. a) ≡ and_then (and_then r (λ u. b)) h
      go (Ok u) b h e = e
      go (Err e) b h k = refl

-- what find_frames writes follows from what is known
pub frames_known : (ms : Modules) (l : Location) (s : Shelved) (choice : Option Procedure) (f : Function) → frames_of ms l s choice f ≡ and_then (known_at ms l f choice s) (λ k. Ok (frames_from l.contribution.«module» (content (ms.at l.contribution.«module»)) f k))
frames_known ms l s choice f =
    let m = l.contribution.«module» in
    let x = content (ms.at m) in
    go (bears m s.holder) _ (λ k. Ok (frames_from m x f k)) (informed m x l choice f)
  where
    go : (b : Bool) {y : Result (List Frame) Refusal} (k : Result Known Refusal) (h : Known → Result (List Frame) Refusal) → y ≡ and_then k h → cond b y (h nothing_known) ≡ and_then (cond b k (Ok nothing_known)) h
    go true k h e = e
    go false k h e = refl

module _ (ms : Modules) (l : Location) (s : Shelved) (choice : Option Procedure) (f : Function) (table : List Frame) where
  pub written_told : (stack : Stack) → Ok (told stack) ≡ known_at ms l f choice s → written table f (frames_of ms l s choice f) ≡ fitted table f (frames_from l.contribution.«module» (content (ms.at l.contribution.«module»)) f (told stack))
  written_told stack h = ap (written table f) (frames_known ms l s choice f ∙ ap (λ w. and_then w (λ k. Ok (frames_from l.contribution.«module» (content (ms.at l.contribution.«module»)) f k))) (sym h))

  pub written_refused : (e : Refusal) → Err e ≡ known_at ms l f choice s → written table f (frames_of ms l s choice f) ≡ record { answer = Err e; table = table }
  written_refused e h = ap (written table f) (frames_known ms l s choice f ∙ ap (λ w. and_then w (λ k. Ok (frames_from l.contribution.«module» (content (ms.at l.contribution.«module»)) f k))) (sym h))
