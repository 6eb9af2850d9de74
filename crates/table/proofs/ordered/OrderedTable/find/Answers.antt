use Rattle.std.proofs.Common.{rules}
use Rattle.table.proofs.ordered.OrderedTable.find.Goals as goal

pub returns : goal.returns
returns g c = search rules
