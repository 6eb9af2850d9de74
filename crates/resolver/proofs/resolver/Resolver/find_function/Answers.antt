use Rattle.std.proofs.Common.{◌+◌, ◌^◌, ◌<◌, sym, rules, arith}
use Rattle.context.specs.Context.{meaning}
use Rattle.lookup.proofs.Extents.{located_address}
use Rattle.resolver.proofs.resolver.Resolver.find_function.Goals as goal

pub returns-clause-answer : goal.returns-clause-answer
returns-clause-answer g c =
    let l = c.in-Some.location in
    let at_address = located_address (meaning c.args.context.now) c.args.address l (sym c.in-Some.ensures) in
    let fits : l.base + l.offset.offset < 2 ^ 32 = (let f = c.ranges.address.fits in omega arith) in
    let choice = c.choose-choice.ensures.chosen in
    let answer = c.by_choice.ensures fits c.choose-choice.ensures.covers in
    search arith

pub returns-in_default-clause-answer : goal.returns-in_default-clause-answer
returns-in_default-clause-answer g c = search rules
