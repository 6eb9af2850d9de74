use Rattle.std.proofs.Common.{rules}
use Rattle.hiding.proofs.HidingModuleProvider.line_row.Goals as goal

pub returns : goal.returns
returns g c = search rules
