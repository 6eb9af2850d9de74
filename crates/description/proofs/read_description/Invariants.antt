use Rattle.std.proofs.Common.{◌≡◌, ◌+◌, ◌≤◌, length}
use Rattle.description.specs.Drafts.{lists}
use Rattle.description.specs.Described.{lines_of, lines_said, text_said}
use Rattle.description.specs.Memory.{RunsOut, TextRunsOut}
use Rattle.description.proofs.read_description.Given as goal

-- the lines below add the rest to what is said so far, or memory runs out there; their count has room
abbrev pub invariant-loop-line : goal.invariant-loop-line
invariant-loop-line l =
    (text_said l.fn.input ≡ lines_said l.number (lines_of l.rest) (lists l.draft)) × (l.number + length l.rest ≤ length l.fn.input + 1) × (RunsOut (lines_of l.rest) (lists l.draft) → TextRunsOut l.fn.input)

abbrev pub decreases-loop-line : goal.decreases-loop-line
decreases-loop-line l = length l.rest
