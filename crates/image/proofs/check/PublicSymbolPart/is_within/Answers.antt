use Rattle.std.proofs.Common.{rules}
use Rattle.image.proofs.check.PublicSymbolPart.is_within.Goals as goal

pub returns : goal.returns
returns c = search rules
