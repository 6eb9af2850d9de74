use Rattle.std.proofs.Common.{rules}
use Rattle.hiding.proofs.HidingModuleProvider.module_count.Goals as goal

pub returns : goal.returns
returns g c = search rules
