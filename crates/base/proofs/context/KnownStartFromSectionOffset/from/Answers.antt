use Rattle.std.proofs.Common.{rules}
use Rattle.base.proofs.context.KnownStartFromSectionOffset.from.Goals as goal

pub returns : goal.returns
returns c = search rules
