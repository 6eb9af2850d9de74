-- Successions of calls. Assumes nothing.
use Rattle.std.specs.Prelude.{◌≡◌, ℕ, List, [], ◌∷◌, Option, Result}
use Rattle.base.specs.declared.refusal.Refusal.{Refusal}
use Rattle.building.specs.Outcome.{Built}
use Rattle.provider.specs.Modules.{Modules}
use Rattle.procedures.specs.declared.function.Function.{Function}
use Rattle.lookup.specs.Reading.{Shelved, empty_shelf}
use Rattle.lookup.specs.Finding.{find_function}
use Rattle.frames.specs.declared.frame.Frame.{Frame}
use Rattle.frames.specs.declared.frame.FunctionFrames.{FunctionFrames}
use Rattle.inlining.specs.Finding.{find_frames}
use Rattle.addresses.specs.declared.Address.{Address}
use Rattle.listing.specs.Listing.{functions}

-- the calls of a resolver, each with the address and the table that it brings
pub data Call : Type 0 where
  look_up : ℕ → Call
  frames : ℕ → List Frame → Call
  list : List Address → Call

-- what a call answers, and what it leaves in its table
pub data Answer : Type 0 where
  function : Result (Option Function) Refusal → Answer
  framed : Result (Option FunctionFrames) Refusal → List Frame → Answer
  listed : Result ℕ Refusal → List Address → Answer

module _ (text : List ℕ) (ms : Modules) (c : Built) where
  abbrev pub answer : Call → Shelved → Answer
  answer (look_up a) s = function (find_function text ms c a s).answer
  answer (frames a table) s = let found = find_frames text ms c a table s in framed found.answer found.table
  answer (list table) s = let found = functions ms c table s in listed found.answer found.table

  abbrev pub shelf_left : Call → Shelved → Shelved
  shelf_left (look_up a) s = (find_function text ms c a s).shelf
  shelf_left (frames a table) s = (find_frames text ms c a table s).shelf
  shelf_left (list table) s = (functions ms c table s).shelf

  -- the shelf after a succession of calls
  abbrev pub after : List Call → Shelved → Shelved
  after [] s = s
  after (call ∷ calls) s = after calls (shelf_left call s)

  -- after any succession of calls on a fresh resolver, each call answers as on a fresh one, and leaves its table the same
  abbrev pub History : Type 0
  History = (calls : List Call) (call : Call) → answer call (after calls empty_shelf) ≡ answer call empty_shelf
