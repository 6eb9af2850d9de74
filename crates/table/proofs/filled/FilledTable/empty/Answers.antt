use Rattle.std.proofs.Common.{rules}
use Rattle.table.proofs.filled.FilledTable.empty.Goals as goal

pub invariant_of-result : goal.invariant_of-result
invariant_of-result g c = search rules
