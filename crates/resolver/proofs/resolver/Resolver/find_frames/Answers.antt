use Rattle.std.proofs.Common.{rules}
use Rattle.context.specs.Context.{meaning}
use Rattle.inlining.proofs.Depth.{depth}
use Rattle.inlining.proofs.Agreeing.{agrees}
use Rattle.inlining.proofs.Covering.{covers}
use Rattle.inlining.proofs.Stretches.{longest}
use Rattle.inlining.proofs.Choice.{first_greatest}
use Rattle.shelf.specs.Shelf.{shelved}
use Rattle.resolver.proofs.resolver.Resolver.find_frames.Goals as goal

pub returns-clause-depth : goal.returns-clause-depth
returns-clause-depth g c =
    let s = c.args.self.now in
    depth (g.P.ImageSource.image s.provider).text (g.P.ModuleProvider.modules s.provider) (meaning c.args.context.now) (shelved s.shelf)

pub returns-clause-agrees : goal.returns-clause-agrees
returns-clause-agrees g c =
    let s = c.args.self.now in
    agrees (g.P.ImageSource.image s.provider).text (g.P.ModuleProvider.modules s.provider) (meaning c.args.context.now) (shelved s.shelf)

pub returns-clause-covers : goal.returns-clause-covers
returns-clause-covers g c = covers

pub returns-clause-longest : goal.returns-clause-longest
returns-clause-longest g c = longest

pub returns-clause-greatest : goal.returns-clause-greatest
returns-clause-greatest g c = (λ rows. first_greatest _ rows, λ ranges. first_greatest _ ranges)

pub returns-clause-answer : goal.returns-clause-answer
returns-clause-answer g c = search rules

pub returns-clause-table : goal.returns-clause-table
returns-clause-table g c = search rules

pub returns-clause-shelf : goal.returns-clause-shelf
returns-clause-shelf g c = search rules
