use Rattle.std.proofs.Common.{rules}
use Rattle.base.proofs.context.ContributionInSection.section.Goals as goal

pub returns : goal.returns
returns c = search rules
