use Rattle.std.proofs.Common.{rules}
use Rattle.context.specs.Context.{meaning}
use Rattle.lookup.proofs.Choosing.{starts-last}
use Rattle.lookup.proofs.Extents.{extents}
use Rattle.shelf.specs.Shelf.{shelved}
use Rattle.resolver.proofs.resolver.Resolver.same_function.Goals as goal

pub returns-in_err-first-clause-extents : goal.returns-in_err-first-clause-extents
returns-in_err-first-clause-extents g c =
    let s = c.args.self.now in
    extents (g.P.ImageSource.image s.provider).text (g.P.ModuleProvider.modules s.provider) (meaning c.args.context.now) (shelved s.shelf) c.args.context.now.rises s.shelf.rises

pub returns-in_err-first-clause-chosen : goal.returns-in_err-first-clause-chosen
returns-in_err-first-clause-chosen g c o = starts-last o (shelved c.args.self.now.shelf).procedures c.args.self.now.shelf.rises

pub returns-in_err-second-clause-extents : goal.returns-in_err-second-clause-extents
returns-in_err-second-clause-extents g c =
    let s = c.args.self.now in
    extents (g.P.ImageSource.image s.provider).text (g.P.ModuleProvider.modules s.provider) (meaning c.args.context.now) (shelved s.shelf) c.args.context.now.rises s.shelf.rises

pub returns-in_err-second-clause-chosen : goal.returns-in_err-second-clause-chosen
returns-in_err-second-clause-chosen g c o = starts-last o (shelved c.args.self.now.shelf).procedures c.args.self.now.shelf.rises

pub returns-clause-extents : goal.returns-clause-extents
returns-clause-extents g c =
    let s = c.args.self.now in
    extents (g.P.ImageSource.image s.provider).text (g.P.ModuleProvider.modules s.provider) (meaning c.args.context.now) (shelved s.shelf) c.args.context.now.rises s.shelf.rises

pub returns-clause-chosen : goal.returns-clause-chosen
returns-clause-chosen g c o = starts-last o (shelved c.args.self.now.shelf).procedures c.args.self.now.shelf.rises

pub returns-clause-answer : goal.returns-clause-answer
returns-clause-answer g c = search rules
