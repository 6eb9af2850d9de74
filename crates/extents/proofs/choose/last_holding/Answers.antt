use Rattle.std.proofs.Common.{◌≤◌, length, sym, ◌∙◌, arith}
use Rattle.extents.proofs.Passing.{stretch_passed, row_passed, row_found}
use Rattle.extents.proofs.choose.last_holding.Goals as goal

pub loop-row-preserved-then-stretch-place : goal.loop-row-preserved-then-stretch-place
loop-row-preserved-then-stretch-place c =
    let ps = c.args.procedures.now in
    let row = c.in-Some.row in
    let upto = c.loop-row.upto in
    let some = c.in-Some.ensures.0 in
    let last = c.in-Some.ensures.1 in
    let before = c.loop-row.invariant.within in
    let within : upto ≤ length ps.rows.now = (let r = c.requires in omega arith) in
    let bounds = ps.stretched row _ (omega arith) in
    record {
      within = (let back = bounds.back in omega arith);
      left_out = stretch_passed c.args.offset ps.rows.now row upto within (omega arith) _ bounds (let e = c.if-stretch-place.true in let p = c.along-place.ensures in omega arith) ∙ c.loop-row.invariant.left_out;
    }

pub returns-then-holds : goal.returns-then-holds
returns-then-holds c =
    let some = c.in-Some.ensures.0 in
    let last = c.in-Some.ensures.1 in
    let before = c.loop-row.invariant.within in
    let requires = c.requires in
    row_found c.args.offset c.args.procedures.now.rows.now c.in-Some.row c.loop-row.upto (omega arith) (omega arith) _ (sym c.if-holds.ensures) ∙ c.loop-row.invariant.left_out

pub loop-row-preserved : goal.loop-row-preserved
loop-row-preserved c =
    let some = c.in-Some.ensures.0 in
    let last = c.in-Some.ensures.1 in
    let before = c.loop-row.invariant.within in
    let requires = c.requires in
    record {
      within = omega arith;
      left_out = row_passed c.args.offset c.args.procedures.now.rows.now c.in-Some.row c.loop-row.upto (omega arith) (omega arith) _ (sym c.if-holds.ensures) ∙ c.loop-row.invariant.left_out;
    }
