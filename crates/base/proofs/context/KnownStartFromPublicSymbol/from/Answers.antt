use Rattle.std.proofs.Common.{rules}
use Rattle.base.proofs.context.KnownStartFromPublicSymbol.from.Goals as goal

pub returns : goal.returns
returns c = search rules
