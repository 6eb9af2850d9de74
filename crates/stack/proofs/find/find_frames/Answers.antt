use Rattle.std.proofs.Common.{rules, ◌+◌, ◌^◌, ◌<◌, sym, arith}
use Rattle.context.specs.Context.{meaning}
use Rattle.lookup.proofs.Extents.{located_address}
use Rattle.stack.proofs.find.find_frames.Goals as goal

pub returns-clause-answer : goal.returns-clause-answer
returns-clause-answer g c =
    let l = c.in-Some.location in
    let at_address = located_address (meaning c.args.context.now) c.args.address l (sym c.in-Some.ensures) in
    let fits : l.base + l.offset.offset < 2 ^ 32 = (let f = c.ranges.address.fits in omega arith) in
    let answer = c.frames_at.ensures.answer fits in
    search arith

pub returns-clause-table : goal.returns-clause-table
returns-clause-table g c =
    let l = c.in-Some.location in
    let at_address = located_address (meaning c.args.context.now) c.args.address l (sym c.in-Some.ensures) in
    let fits : l.base + l.offset.offset < 2 ^ 32 = (let f = c.ranges.address.fits in omega arith) in
    let table = c.frames_at.ensures.table fits in
    search arith

pub returns-in_err-want-clause-answer : goal.returns-in_err-want-clause-answer
returns-in_err-want-clause-answer g c = search rules

pub returns-in_err-want-clause-table : goal.returns-in_err-want-clause-table
returns-in_err-want-clause-table g c = search rules

pub returns-in_err-want-clause-shelf : goal.returns-in_err-want-clause-shelf
returns-in_err-want-clause-shelf g c = search rules

pub returns-clause-shelf : goal.returns-clause-shelf
returns-clause-shelf g c = search rules
