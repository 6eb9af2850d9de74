use Rattle.std.proofs.Common.{rules}
use Rattle.procedures.proofs.row.ParentFromProcedure.from.Goals as goal

pub returns : goal.returns
returns c = search rules
