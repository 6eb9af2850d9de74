use Rattle.std.proofs.Common.{◌<◌, sym, subst, ◌∙◌, arith}
use Rattle.ranges.specs.Uncovered.{uncovered_at, Steady, First}
use Rattle.ranges.proofs.Edges.{differs, seek_more, seek_end}
use Rattle.ranges.proofs.uncovered.first_place.Goals as goal

pub returns-in_err-place : goal.returns-in_err-place
returns-in_err-place c =
    let test = uncovered_at c.args.depth c.args.ranges.now in
    let here = sym c.is_uncovered.ensures ∙ differs c.is_uncovered.result c.args.wanted c.loop-place-test.true in
    let steady = subst (Steady test c.loop-place.place) c.in_err-place.was c.next_place.ensures in
    subst (First test c.args.wanted c.args.from) (sym c.from_residual.ensures) (seek_end test c.args.from c.args.wanted c.loop-place.invariant.passed here steady)

pub loop-place-smaller : goal.loop-place-smaller
loop-place-smaller c =
    let s = subst (Steady (uncovered_at c.args.depth c.args.ranges.now) c.loop-place.place) c.in_ok-place.was c.next_place.ensures in
    let l : c.loop-place.place < c.in_ok-place.place = s.0 in
    omega arith

pub loop-place-preserved : goal.loop-place-preserved
loop-place-preserved c =
    let test = uncovered_at c.args.depth c.args.ranges.now in
    let here = sym c.is_uncovered.ensures ∙ differs c.is_uncovered.result c.args.wanted c.loop-place-test.true in
    let s = subst (Steady test c.loop-place.place) c.in_ok-place.was c.next_place.ensures in
    let l : c.loop-place.place < c.in_ok-place.place = s.0 in
    record {
      reached = omega arith;
      passed = seek_more test c.args.from c.args.wanted c.loop-place.invariant.passed here c.in_ok-place.place s;
    }
