-- Successions of calls that share their tables. Assumes nothing.
use Rattle.std.specs.Prelude.{ℕ, List, [], ◌∷◌}
use Rattle.building.specs.Outcome.{Built}
use Rattle.provider.specs.Modules.{Modules}
use Rattle.lookup.specs.Reading.{Shelved}
use Rattle.frames.specs.declared.frame.Frame.{Frame}
use Rattle.addresses.specs.declared.Address.{Address}
use Rattle.listing.specs.Calls.{Call, look_up, frames, list, Answer, function, framed, listed, answer, shelf_left}
use Rattle.succession.specs.declared.calls.Call.{Call as Question}
use Rattle.succession.specs.declared.calls.Call.TheVariants.{FindFunction, FindFrames, Functions}
use Rattle.succession.specs.declared.calls.Answer.{Answer as Reply}
use Rattle.succession.specs.declared.calls.Answer.TheVariants.{Function as FunctionReply, Frames as FramesReply, Functions as FunctionsReply}
use Rattle.succession.specs.declared.calls.CallTables.{CallTables}

-- the rows of the two tables
pub record Rows : Type 0 where
  pub frames : List Frame
  pub addresses : List Address

abbrev pub rows_of : CallTables → Rows
rows_of t = record { frames = t.frames.now; addresses = t.addresses.now }

-- a call, with the table of its kind
abbrev pub given : Question → Rows → Call
given (FindFunction a) t = look_up a
given (FindFrames a) t = frames a t.frames
given Functions t = list t.addresses

-- a reply, with the table of its kind
abbrev pub replied : Reply → Rows → Answer
replied (FunctionReply r) t = function r
replied (FramesReply r) t = framed r t.frames
replied (FunctionsReply r) t = listed r t.addresses

-- an answer's table takes the place of the one of its kind
abbrev pub left : Answer → Rows → Rows
left (function r) t = t
left (framed r table) t = record { frames = table; addresses = t.addresses }
left (listed r table) t = record { frames = t.frames; addresses = table }

module _ (text : List ℕ) (ms : Modules) (c : Built) where
  -- the rows after a succession of calls, each with the rows that the one before left
  abbrev pub rows_after : List Question → Rows → Shelved → Rows
  rows_after [] t s = t
  rows_after (q ∷ qs) t s = rows_after qs (left (answer text ms c (given q t) s) t) (shelf_left text ms c (given q t) s)
