use Rattle.ranges.proofs.Edges.{no_end}
use Rattle.ranges.proofs.uncovered.first_stretch.Goals as goal

pub returns-in_err-end : goal.returns-in_err-end
returns-in_err-end c = absurd (no_end c.args.depth c.in_ok-start.start c.args.ranges.now c.in_err-end.ensures)
