use Rattle.std.proofs.Common.{rules}
use Rattle.hiding.proofs.HidingModuleProvider.module_state.Goals as goal

pub returns : goal.returns
returns g c = search rules
