use Rattle.std.proofs.Common.{rules}
use Rattle.table.proofs.ordered.OrderedTable.freeze.Goals as goal

pub returns-clause-count : goal.returns-clause-count
returns-clause-count g c = search rules
