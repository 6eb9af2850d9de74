use Rattle.std.proofs.Common.{rules}
use Rattle.hiding.proofs.HidingModuleProvider.extras.Goals as goal

pub returns : goal.returns
returns g c = search rules
