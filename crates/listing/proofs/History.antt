-- What calls leave on a shelf changes neither what later calls answer nor what they leave in a table. Assumes nothing.
use Rattle.std.proofs.Common.{◌≡◌, ℕ, zero, suc, ◌+◌, List, [], ◌∷◌, Some, None, Ok, Err, Option, Result, sym, refl, ap, ◌∙◌, subst, map, length}
use Rattle.base.specs.declared.image.Section.{Section}
use Rattle.base.specs.declared.refusal.Refusal.{Refusal}
use Rattle.building.specs.Outcome.{Built}
use Rattle.provider.specs.Modules.{Modules}
use Rattle.procedures.specs.declared.function.Function.{Function}
use Rattle.procedures.specs.declared.function.Location.{Location}
use Rattle.lookup.specs.Reading.{Shelved, empty_shelf, shelve}
use Rattle.lookup.specs.Places.{locate}
use Rattle.lookup.specs.Finding.{find_function, chosen, by_choice}
use Rattle.lookup.proofs.Sound.{Sound, sound_empty, sound_shelve, sound_shelved, function_fresh, function_sound}
use Rattle.frames.specs.declared.frame.Frame.{Frame}
use Rattle.inlining.specs.Finding.{FoundFrames, find_located_frames, shelved_frames, chosen_frames}
use Rattle.addresses.specs.declared.Address.{Address}
use Rattle.listing.specs.Listing.{Listed, with_offsets, start_offset, procedure_offset, with_modules, listed, count_of, table_of}
use Rattle.listing.specs.Stepping.{Stepped, step}
use Rattle.listing.specs.Calls.{Call, Answer, look_up, frames, list, function, framed, listed as answered_list, answer, shelf_left, after, History}

module _ (ms : Modules) (sections : List Section) (rows : ℕ) where
  -- the modules from number k on, given what came of wanting the one before, and of its procedures
  abbrev pub after_procedures : ℕ → ℕ → Shelved → Result (List Address) Refusal → Listed
  after_procedures k left s (Ok xs) = with_modules ms sections rows k left xs s
  after_procedures k left s (Err e) = record { answer = Err e; shelf = s }

  abbrev pub after_wanted : ℕ → ℕ → List Address → Shelved → Option Refusal → Listed
  after_wanted k left xs s (Some e) = record { answer = Err e; shelf = s }
  after_wanted k left xs s None = after_procedures k left s (with_offsets rows sections xs (map procedure_offset s.procedures))

  modules_fresh : (k left : ℕ) (xs : List Address) (s : Shelved) → Sound ms s → (with_modules ms sections rows k left xs s).answer ≡ (with_modules ms sections rows k left xs empty_shelf).answer
  modules_fresh k zero xs s h = refl
  modules_fresh k (suc left) xs s h = ap (λ w. (after_wanted (k + 1) left xs w.shelf w.refusal).answer) (sound_shelve ms k s h)

  procedures_sound : (k left : ℕ) (s : Shelved) (r : Result (List Address) Refusal) → Sound ms s → ((xs : List Address) → Sound ms (with_modules ms sections rows k left xs s).shelf) → Sound ms (after_procedures k left s r).shelf
  procedures_sound k left s (Ok xs) h next = next xs
  procedures_sound k left s (Err e) h next = h

  wanted_sound : (k left : ℕ) (xs : List Address) (s : Shelved) (o : Option Refusal) → Sound ms s → ((ys : List Address) → Sound ms (with_modules ms sections rows k left ys s).shelf) → Sound ms (after_wanted k left xs s o).shelf
  wanted_sound k left xs s (Some e) h next = h
  wanted_sound k left xs s None h next = procedures_sound k left s (with_offsets rows sections xs (map procedure_offset s.procedures)) h next

  modules_sound : (k left : ℕ) (xs : List Address) (s : Shelved) → Sound ms s → Sound ms (with_modules ms sections rows k left xs s).shelf
  modules_sound k zero xs s h = h
  modules_sound k (suc left) xs s h =
      let w = shelve ms k s in
      let g : Sound ms w.shelf = sound_shelved ms k s h in
      wanted_sound (k + 1) left xs w.shelf w.refusal g (λ ys. modules_sound (k + 1) left ys w.shelf g)

module _ (ms : Modules) (c : Built) where
  -- the list of functions
  abbrev pub after_starts : ℕ → Shelved → Result (List Address) Refusal → Listed
  after_starts rows s (Ok xs) = with_modules ms c.sections rows 0 ms.count xs s
  after_starts rows s (Err e) = record { answer = Err e; shelf = s }

  starts_fresh : (rows : ℕ) (s : Shelved) (r : Result (List Address) Refusal) → Sound ms s → (after_starts rows s r).answer ≡ (after_starts rows empty_shelf r).answer
  starts_fresh rows s (Ok xs) h = modules_fresh ms c.sections rows 0 ms.count xs s h
  starts_fresh rows s (Err e) h = refl

  starts_sound : (rows : ℕ) (s : Shelved) (r : Result (List Address) Refusal) → Sound ms s → Sound ms (after_starts rows s r).shelf
  starts_sound rows s (Ok xs) h = modules_sound ms c.sections rows 0 ms.count xs s h
  starts_sound rows s (Err e) h = h

  pub listed_fresh : (rows : ℕ) (s : Shelved) → Sound ms s → (listed ms c rows s).answer ≡ (listed ms c rows empty_shelf).answer
  listed_fresh rows s h = starts_fresh rows s (with_offsets rows c.sections [] (map start_offset c.starts)) h

  pub listed_sound : (rows : ℕ) (s : Shelved) → Sound ms s → Sound ms (listed ms c rows s).shelf
  listed_sound rows s h = starts_sound rows s (with_offsets rows c.sections [] (map start_offset c.starts)) h

-- a step finds what another finds, leaves as many addresses, and a sound shelf
pub record Stepping (ms : Modules) (step other : Stepped) : Type 0 where
  pub function : step.function ≡ other.function
  pub rest : step.rest ≡ other.rest
  pub sound : Sound ms step.shelf

both : (ms : Modules) (a b fresh : Stepped) → Stepping ms a fresh → Stepping ms b fresh → Stepping ms a b
both ms a b fresh h g = record { function = h.function ∙ sym g.function; rest = h.rest ∙ sym g.rest; sound = h.sound }

module _ (text : List ℕ) (ms : Modules) (c : Built) where
  -- the frames of an address
  abbrev frames_answer : FoundFrames → Answer
  frames_answer found = framed found.answer found.table

  located_frames_fresh : (o : Option Location) (table : List Frame) (s : Shelved) → Sound ms s → frames_answer (find_located_frames text ms c o table s) ≡ frames_answer (find_located_frames text ms c o table empty_shelf)
  located_frames_fresh None table s h = refl
  located_frames_fresh (Some l) table s h =
      ap (λ w. frames_answer (shelved_frames text ms c l table w.refusal w.shelf)) (sound_shelve ms l.contribution.«module» s h)

  chosen_sound : (l : Location) (table : List Frame) (s : Shelved) (f : Option Function) → Sound ms s → Sound ms (chosen_frames ms l table s (chosen l.offset s.procedures) f).shelf
  chosen_sound l table s None h = h
  chosen_sound l table s (Some f) h = h

  shelved_sound : (l : Location) (table : List Frame) (o : Option Refusal) (s : Shelved) → Sound ms s → Sound ms (shelved_frames text ms c l table o s).shelf
  shelved_sound l table (Some e) s h = h
  shelved_sound l table None s h = chosen_sound l table s (by_choice text c.starts l (chosen l.offset s.procedures)) h

  located_frames_sound : (o : Option Location) (table : List Frame) (s : Shelved) → Sound ms s → Sound ms (find_located_frames text ms c o table s).shelf
  located_frames_sound None table s h = h
  located_frames_sound (Some l) table s h =
      let w = shelve ms l.contribution.«module» s in shelved_sound l table w.refusal w.shelf (sound_shelved ms l.contribution.«module» s h)

  -- any of the three
  pub sound_answers : (call : Call) (s : Shelved) → Sound ms s → answer text ms c call s ≡ answer text ms c call empty_shelf
  sound_answers (look_up a) s h = ap function (function_fresh text ms c a s h)
  sound_answers (frames a table) s h = located_frames_fresh (locate c a) table s h
  sound_answers (list table) s h = ap (λ r. answered_list (count_of r) (table_of table r)) (listed_fresh ms c (length table) s h)

  pub sound_after : (call : Call) (s : Shelved) → Sound ms s → Sound ms (shelf_left text ms c call s)
  sound_after (look_up a) s h = function_sound text ms c a s h
  sound_after (frames a table) s h = located_frames_sound (locate c a) table s h
  sound_after (list table) s h = listed_sound ms c (length table) s h

  pub sound_afters : (calls : List Call) (s : Shelved) → Sound ms s → Sound ms (after text ms c calls s)
  sound_afters [] s h = h
  sound_afters (call ∷ calls) s h = sound_afters calls (shelf_left text ms c call s) (sound_after call s h)

  pub history : History text ms c
  history calls call = sound_answers call (after text ms c calls empty_shelf) (sound_afters calls empty_shelf (sound_empty ms))

  -- a step of a cursor: what it finds, and what it leaves on the shelf
  abbrev after_found : Address → List Address → Shelved → Result (Option Function) Refusal → Stepped
  after_found a xs s (Ok (Some f)) = record { function = Some f; rest = xs; shelf = s }
  after_found a xs s (Ok None) = step text ms c xs s
  after_found a xs s (Err e) = step text ms c xs s

  found_step : (a : Address) (xs : List Address) (s e : Shelved) (r : Result (Option Function) Refusal) → Sound ms s → Sound ms e → ((z : Shelved) → Sound ms z → Stepping ms (step text ms c xs z) (step text ms c xs empty_shelf)) → Stepping ms (after_found a xs s r) (after_found a xs e r)
  found_step a xs s e (Ok (Some f)) h g next = record { function = refl; rest = refl; sound = h }
  found_step a xs s e (Ok None) h g next = both ms _ _ _ (next s h) (next e g)
  found_step a xs s e (Err x) h g next = both ms _ _ _ (next s h) (next e g)

  pub sound_step : (xs : List Address) (s : Shelved) → Sound ms s → Stepping ms (step text ms c xs s) (step text ms c xs empty_shelf)
  sound_step [] s h = record { function = refl; rest = refl; sound = h }
  sound_step (a ∷ xs) s h =
      let mine = find_function text ms c a.rva s in
      let fresh = find_function text ms c a.rva empty_shelf in
      subst (λ r. Stepping ms (after_found a xs mine.shelf mine.answer) (after_found a xs fresh.shelf r)) (function_fresh text ms c a.rva s h)
      (found_step a xs mine.shelf fresh.shelf mine.answer (function_sound text ms c a.rva s h) (function_sound text ms c a.rva empty_shelf (sound_empty ms)) (sound_step xs))
