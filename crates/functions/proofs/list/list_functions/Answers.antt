use Rattle.std.proofs.Common.{rules}
use Rattle.functions.proofs.list.list_functions.Goals as goal

pub returns-then-is_err-clause-table : goal.returns-then-is_err-clause-table
returns-then-is_err-clause-table g c = search rules

pub returns-else-is_err-clause-table : goal.returns-else-is_err-clause-table
returns-else-is_err-clause-table g c = search rules
