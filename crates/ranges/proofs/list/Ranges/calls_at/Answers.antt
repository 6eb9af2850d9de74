use Rattle.std.proofs.Common.{◌<◌, length, sym, ◌∙◌, arith}
use Rattle.std.proofs.lemmas.List.{length-set, take_more_set}
use Rattle.ranges.proofs.Depths.{upto_more, upto_stop, upto_full}
use Rattle.ranges.proofs.list.Ranges.calls_at.Goals as goal
use Rattle.ranges.proofs.list.Ranges.calls_at.Goals.{else-loop-count-test, then-loop-count-test+in_default}

pub loop-count-preserved : goal.loop-count-preserved
loop-count-preserved c = record { few = omega arith; long = omega (arith, length-set c.loop-count.rows c.loop-count.count c.in-Some.range); found = let l : c.loop-count.count < length c.loop-count.rows = omega arith in rw take_more_set (upto_more c.loop-count.invariant.found c.in-Some.range (sym c.inlined.ensures ∙ c.in-Some.is)) }

pub returns : goal.returns
returns c =
    elim c.loop-count-test.branch [
      | else-loop-count-test w ↦ upto_full c.loop-count.invariant.found (omega arith)
      | then-loop-count-test+in_default w ↦ upto_stop c.loop-count.invariant.found w.loop-count-test.true (sym w.inlined.ensures ∙ w.in_default.is)
    ]
