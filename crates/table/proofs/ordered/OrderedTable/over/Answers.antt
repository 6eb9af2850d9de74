use Rattle.std.proofs.Common.{rules}
use Rattle.table.proofs.ordered.OrderedTable.over.Goals as goal

pub invariant_of-result : goal.invariant_of-result
invariant_of-result g c = search rules

pub returns-clause-count : goal.returns-clause-count
returns-clause-count g c = search rules
