use Rattle.std.proofs.Common.{rules}
use Rattle.context.proofs.tables.Context.function_count.Goals as goal

pub returns : goal.returns
returns c = search rules
