use Rattle.std.proofs.Common.{rules}
use Rattle.context.proofs.tables.Context.empty.Goals as goal

pub invariant_of-result : goal.invariant_of-result
invariant_of-result c = search rules
