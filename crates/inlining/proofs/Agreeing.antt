-- What frames and functions agree on. Assumes nothing.
use Rattle.std.proofs.Common.{◌≡◌, ℕ, ◌-◌, ◌+◌, ltb, List, [], ◌∷◌, ◌++◌, map, reverse, length, get_or, drop, Some, None, Ok, Err, Option, Result, sym, refl, ap, ◌∙◌, ⊎_elim, arith}
use Rattle.std.proofs.lemmas.Bool.{cases_Bool, cond_both, cond-true, cond-false}
use Rattle.std.proofs.lemmas.List.{get_or_append_left, get_or_push, length_push}
use Rattle.base.specs.declared.refusal.Refusal.{Refusal}
use Rattle.base.specs.declared.refusal.FaultyList.TheVariants.{Extras}
use Rattle.base.specs.Refusals.{or_refusal}
use Rattle.building.specs.Outcome.{Built}
use Rattle.provider.specs.Modules.{Modules, Module, content}
use Rattle.provider.specs.declared.symbols.LineRow.{LineRow}
use Rattle.procedures.specs.declared.row.Procedure.{Procedure}
use Rattle.procedures.specs.declared.function.Location.{Location}
use Rattle.procedures.specs.declared.function.Function.{Function}
use Rattle.lookup.specs.Reading.{Shelved, bears, shelve}
use Rattle.lookup.specs.Places.{locate}
use Rattle.lookup.specs.Finding.{chosen, by_choice, answered, find_located}
use Rattle.frames.specs.declared.frame.Frame.{Frame}
use Rattle.frames.specs.declared.range.InlineRange.{InlineRange}
use Rattle.inlining.specs.Choice.{line_at}
use Rattle.inlining.specs.Finding.{FoundFrames, Written, found_or, function_frame, inline_frame, start_of, inlined_calls, informed_frames, frames_of, written, chosen_frames, shelved_frames, find_located_frames}
use Rattle.inlining.specs.Laws.{FramesOf, AgreesWith, Agrees}
use Rattle.inlining.proofs.Walking.{ok_is, then_ok}

-- frames whose last one has a function's name
record Ended (g : Function) (frames : List Frame) : Type 0 where
  inner : List Frame
  outer : Frame
  whole : frames ≡ inner ++ outer ∷ []
  named : outer.name ≡ g.name

function_named : (x : Module) (g : Function) (row : Option LineRow) → (function_frame x g row).name ≡ g.name
function_named x g None = refl
function_named x g (Some row) = refl

-- frames with information, step by step
pub record Informed (m : ℕ) (x : Module) (l : Location) (choice : Option Procedure) (g : Function) (frames : List Frame) : Type 0 where
  pub row : Option LineRow
  pub calls : List InlineRange
  pub told : inlined_calls m x l.offset.offset choice ≡ Ok calls
  pub whole : frames ≡ reverse (map (inline_frame m x) calls) ++ function_frame x g row ∷ []

pub informed : (m : ℕ) (x : Module) (l : Location) (choice : Option Procedure) (g : Function) (frames : List Frame) → informed_frames m x l choice g ≡ Ok frames → Informed m x l choice g frames
informed m x l choice g frames h =
    let a = then_ok (or_refusal (Extras m) x.extras) _ frames h in
    let b = then_ok (line_at m (x.line_rows (start_of l g)) l.offset.offset) _ frames a.2 in
    let c = then_ok (inlined_calls m x l.offset.offset choice) _ frames b.2 in
    record { row = b.0; calls = c.0; told = c.1; whole = sym (ok_is _ frames c.2) }

frames_ended : (ms : Modules) (l : Location) (s : Shelved) (choice : Option Procedure) (g : Function) (frames : List Frame) → frames_of ms l s choice g ≡ Ok frames → Ended g frames
frames_ended ms l s choice g frames h =
    let m = l.contribution.«module» in
    let x = content (ms.at m) in
    ⊎_elim
    (λ b.
    let i = informed m x l choice g frames (sym (cond-true (bears m s.holder) _ _ b) ∙ h) in
    record { inner = reverse (map (inline_frame m x) i.calls); outer = function_frame x g i.row; whole = i.whole; named = function_named x g i.row })
    (λ b. record { inner = []; outer = function_frame x g None; whole = sym (ok_is _ frames (sym (cond-false (bears m s.holder) _ _ b) ∙ h)); named = refl })
    (cases_Bool (bears m s.holder))

outermost : (g : Function) (frames rest : List Frame) → Ended g frames → (d : Frame) → (get_or (frames ++ rest) (length frames - 1) d).name ≡ g.name
outermost g frames rest e d =
    let l : length frames ≡ length e.inner + 1 = ap length e.whole ∙ length_push e.inner e.outer in
    ap (λ (f : Frame). f.name)
    (get_or_append_left frames rest d (length frames - 1) (omega arith) ∙
    ap (λ zs. get_or zs (length frames - 1) d) e.whole ∙
    get_or_push e.inner e.outer d (length frames - 1) (omega arith)) ∙
    e.named

-- what is found where frames were written
abbrev found_in : Shelved → Written → FoundFrames
found_in s w = record { answer = found_or w.answer; table = w.table; shelf = s }

module _ (table : List Frame) (s : Shelved) where
  agrees_written : (g : Function) (r : Result (List Frame) Refusal) → ((frames : List Frame) → r ≡ Ok frames → Ended g frames) → FramesOf (found_in s (written table g r)) g (found_or (written table g r).answer)
  agrees_written g (Err e) h = tt
  agrees_written g (Ok frames) h =
      cond_both (ltb (length table) (length frames)) _ _ (λ w. FramesOf (found_in s w) g (found_or w.answer))
      (λ b. tt)
      (λ b. (refl, refl, outermost g frames (drop (length frames) table) (h frames refl)))

  agrees_chosen : (ms : Modules) (l : Location) (choice : Option Procedure) (o : Option Function) → AgreesWith (chosen_frames ms l table s choice o) (Ok o) × ((chosen_frames ms l table s choice o).shelf ≡ s)
  agrees_chosen ms l choice None = (refl, refl)
  agrees_chosen ms l choice (Some g) = (agrees_written g (frames_of ms l s choice g) (frames_ended ms l s choice g), refl)

module _ (text : List ℕ) (ms : Modules) (c : Built) (table : List Frame) where
  agrees_shelved : (l : Location) (r : Option Refusal) (s : Shelved) → AgreesWith (shelved_frames text ms c l table r s) (answered text c l r s) × ((shelved_frames text ms c l table r s).shelf ≡ s)
  agrees_shelved l (Some e) s = (refl, refl)
  agrees_shelved l None s =
      let choice = chosen l.offset s.procedures in
      agrees_chosen table s ms l choice (by_choice text c.starts l choice)

  agrees_located : (o : Option Location) (s : Shelved) → AgreesWith (find_located_frames text ms c o table s) (find_located text ms c o s).answer × ((find_located_frames text ms c o table s).shelf ≡ (find_located text ms c o s).shelf)
  agrees_located None s = (refl, refl)
  agrees_located (Some l) s =
      let w = shelve ms l.contribution.«module» s in
      agrees_shelved l w.refusal w.shelf

-- the law of frames and functions: one extent, one name outermost, one shelf, and no frames without a function
pub agrees : (text : List ℕ) (ms : Modules) (c : Built) (s : Shelved) → Agrees text ms c s
agrees text ms c s a table = agrees_located text ms c table (locate c a) s
