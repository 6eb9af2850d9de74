use Rattle.std.proofs.Common.{rules}
use Rattle.sections.proofs.list.Sections.keeps.Goals as goal

pub returns-then-contribution-ne0 : goal.returns-then-contribution-ne0
returns-then-contribution-ne0 c = search rules

pub returns-else-contribution-ne0 : goal.returns-else-contribution-ne0
returns-else-contribution-ne0 c = search rules
