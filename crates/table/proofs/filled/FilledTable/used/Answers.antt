use Rattle.std.proofs.Common.{rules}
use Rattle.table.proofs.filled.FilledTable.used.Goals as goal

pub returns : goal.returns
returns g c = search rules
