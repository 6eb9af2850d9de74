use Rattle.std.proofs.Common.{rules}
use Rattle.sections.proofs.list.Sections.empty.Goals as goal

pub returns-clause-count : goal.returns-clause-count
returns-clause-count c = search rules

pub returns-clause-none : goal.returns-clause-none
returns-clause-none c = search rules
