use Rattle.std.proofs.Common.{rules}
use Rattle.base.proofs.context.Contribution.empty.Goals as goal

pub returns : goal.returns
returns c = search rules
