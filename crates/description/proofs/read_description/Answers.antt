use Rattle.std.proofs.Common.{[], rules}
use Rattle.description.specs.Described.{lines_of, content}
use Rattle.description.specs.Drafts.{lists}
use Rattle.description.proofs.Cutting.{cut_line, last_line, ends, goes_on, below, finishes}
use Rattle.description.proofs.Soundness.{sound}
use Rattle.description.proofs.Spelling.{words_decide}
use Rattle.description.proofs.read_description.Goals as goal

-- the first line with a mistake ends the reading
pub returns-in_err-read_line-clause-described : goal.returns-in_err-read_line-clause-described
returns-in_err-read_line-clause-described c =
    ends c.args.input.now c.loop-line.rest.now c.in-Some.line.now (lines_of c.in-Some.below.now) c.loop-line.number (lists c.loop-line.draft) (lists c.read_line.new.draft) c.in_err-read_line.field-0.0 c.read_line.result c.from_residual.result (search rules) (search rules) (search rules) (cut_line c.loop-line.rest.now c.in-Some.line.now c.in-Some.below.now (search rules)) (search rules) (search rules)

pub returns-in_err-read_line-2-clause-described : goal.returns-in_err-read_line-2-clause-described
returns-in_err-read_line-2-clause-described c =
    ends c.args.input.now c.loop-line.rest.now c.loop-line.rest.now [] c.loop-line.number (lists c.loop-line.draft) (lists c.read_line-2.new.draft) c.in_err-read_line-2.field-0.0 c.read_line-2.result c.from_residual-in_err-read_line-2.result (search rules) (search rules) (search rules) (last_line c.loop-line.rest.now (search rules)) (search rules) (search rules)

pub returns-clause-described : goal.returns-clause-described
returns-clause-described c =
    finishes c.args.input.now c.loop-line.rest.now c.loop-line.number (lists c.loop-line.draft) (lists c.read_line-2.new.draft) (content c.finish.result) (search rules) (last_line c.loop-line.rest.now (search rules)) (search rules) (search rules)

pub loop-line-preserved : goal.loop-line-preserved
loop-line-preserved c =
    let rest = c.loop-line.rest.now in
    let line = c.in-Some.line.now in
    let ls = lines_of c.in-Some.below.now in
    let cuts = cut_line rest line c.in-Some.below.now (search rules) in
    let said = goes_on c.args.input.now rest line ls c.loop-line.number (lists c.loop-line.draft) (lists c.read_line.new.draft) (search rules) cuts (search rules) in
    let runs_out = below rest line ls c.loop-line.number (lists c.loop-line.draft) (lists c.read_line.new.draft) cuts (search rules) in
    (said, search rules, λ r. c.loop-line.invariant.2 (runs_out r))

pub loop-line-init : goal.loop-line-init
loop-line-init c = search rules

pub returns-in_err-read_line-clause-sound : goal.returns-in_err-read_line-clause-sound
returns-in_err-read_line-clause-sound c = sound

pub returns-in_err-read_line-clause-words : goal.returns-in_err-read_line-clause-words
returns-in_err-read_line-clause-words c = words_decide

pub returns-in_err-read_line-2-clause-sound : goal.returns-in_err-read_line-2-clause-sound
returns-in_err-read_line-2-clause-sound c = sound

pub returns-in_err-read_line-2-clause-words : goal.returns-in_err-read_line-2-clause-words
returns-in_err-read_line-2-clause-words c = words_decide

pub returns-clause-sound : goal.returns-clause-sound
returns-clause-sound c = sound

pub returns-clause-words : goal.returns-clause-words
returns-clause-words c = words_decide
