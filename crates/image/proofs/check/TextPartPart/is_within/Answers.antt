use Rattle.std.proofs.Common.{rules}
use Rattle.image.proofs.check.TextPartPart.is_within.Goals as goal

pub returns : goal.returns
returns c = search rules
