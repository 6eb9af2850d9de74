use Rattle.std.proofs.Common.{rules}
use Rattle.hiding.proofs.HidingImageSource.contribution.Goals as goal

pub returns : goal.returns
returns g c = search rules
