use Rattle.std.proofs.Common.{rules, ◌<◌, length, arith}
use Rattle.hiding.proofs.Numbers.{one_more}
use Rattle.hiding.proofs.Hiding.hide.Goals as goal

pub invariant_of-self : goal.invariant_of-self
invariant_of-self g c =
    let room : c.args.self.now.count < length c.args.self.now.numbers = omega arith in
    record { few = omega arith; once = one_more c.args.self.now.count c.args.self.now.numbers c.args.number room c.args.self.now.once c.if-hides.ensures }

pub returns-then-self-ge-MOST_HIDDEN-clause-numbers : goal.returns-then-self-ge-MOST_HIDDEN-clause-numbers
returns-then-self-ge-MOST_HIDDEN-clause-numbers g c = search rules
