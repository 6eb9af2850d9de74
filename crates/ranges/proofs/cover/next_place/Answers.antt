use Rattle.std.proofs.Common.{sym, ◌∙◌}
use Rattle.ranges.proofs.Edges.{steady_covered, steady_edge}
use Rattle.ranges.proofs.cover.next_place.Goals as goal

pub returns-in-Some : goal.returns-in-Some
returns-in-Some c = steady_covered c.args.depth c.args.place _ c.args.ranges.now (sym c.covered_upto.ensures ∙ c.in-Some.is)

pub returns-in-None : goal.returns-in-None
returns-in-None c = steady_edge c.args.depth c.args.place c.args.ranges.now _ (sym c.next_edge.ensures)
