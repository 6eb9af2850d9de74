use Rattle.std.proofs.Common.{◌≡◌, Some, rules}
use Rattle.std.specs.List.{slice_get}
use Rattle.provider.specs.declared.symbols.ModuleState.TheVariants.{Present}
use Rattle.modules.proofs.Good.{present_answers}
use Rattle.row_provider.proofs.RowProvider.row.Goals as goal

pub returns-in-Some : goal.returns-in-Some
returns-in-Some c =
    let there : Some c.in-Some.row ≡ slice_get c.args.self.now.modules.modules.now c.args.number = cc in
    let state : c.in-Some.row.state ≡ Present = search rules in
    present_answers c.args.self.now.image.rows.text.now c.args.self.now.modules c.args.self.now.good c.args.number c.in-Some.row there state
