use Rattle.std.proofs.Common.{rules}
use Rattle.extents.proofs.name.procedure_name.Goals as goal

pub returns : goal.returns
returns c = search rules
