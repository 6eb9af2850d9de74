use Rattle.std.proofs.Common.{◌+◌, ◌<◌, length, sym, set, arith}
use Rattle.std.proofs.lemmas.Grind.{common_steps}
use Rattle.std.proofs.lemmas.List.{take_more_set, length-take}
use Rattle.ranges.proofs.Completed.{fits}
use Rattle.ranges.proofs.list.Ranges.push.Goals as goal

pub returns-clause-pushed : goal.returns-clause-pushed
returns-clause-pushed c =
    let rows = c.args.self.now.rows in
    let count = c.args.self.now.count in
    let room : count < length rows = omega arith in
    (fits c.args.module _ _ (sym (take_more_set rows count c.args.range room)) (omega (arith, length-take (count + 1) (set rows count c.args.range)))).0

pub bounds-self-self : goal.bounds-self-self
bounds-self-self c = grind (arith, common_steps)

pub invariant_of-self : goal.invariant_of-self
invariant_of-self c = grind (arith, common_steps)
