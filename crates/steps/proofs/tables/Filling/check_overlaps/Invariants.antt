use Rattle.std.proofs.Common.{◌≡◌, ◌∷◌, drop, take}
use Rattle.building.specs.Blocks.{first_overlap}
use Rattle.steps.proofs.tables.Filling.check_overlaps.Given as goal

abbrev pub invariant-loop-next : goal.invariant-loop-next
invariant-loop-next l = first_overlap (l.before ∷ drop l.next-index l.others) ≡ first_overlap (take l.self.contributions.count l.self.contributions.rows.now)
