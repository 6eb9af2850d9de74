use Rattle.std.proofs.Common.{rules}
use Rattle.hiding.proofs.HidingModuleProvider.file_name.Goals as goal

pub returns : goal.returns
returns g c = search rules
