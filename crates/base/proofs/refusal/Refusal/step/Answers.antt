use Rattle.std.proofs.Common.{rules}
use Rattle.base.proofs.refusal.Refusal.step.Goals as goal

pub returns-in-ContributionTableFull : goal.returns-in-ContributionTableFull
returns-in-ContributionTableFull c = search rules
