use Rattle.std.proofs.Common.{rules}
use Rattle.base.proofs.context.ContributionRow.meet.Goals as goal

pub returns : goal.returns
returns c = search rules
