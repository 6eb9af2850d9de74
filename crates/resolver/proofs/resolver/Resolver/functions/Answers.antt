use Rattle.std.proofs.Common.{rules}
use Rattle.context.specs.Context.{meaning}
use Rattle.listing.proofs.Lists.{lists}
use Rattle.resolver.proofs.resolver.Resolver.functions.Goals as goal

pub returns-clause-lists : goal.returns-clause-lists
returns-clause-lists g c = lists (g.P.ModuleProvider.modules c.args.self.now.provider) (meaning c.args.context.now)

pub returns-clause-answer : goal.returns-clause-answer
returns-clause-answer g c = search rules

pub returns-clause-table : goal.returns-clause-table
returns-clause-table g c = search rules

pub returns-clause-shelf : goal.returns-clause-shelf
returns-clause-shelf g c = search rules
