use Rattle.std.proofs.Common.{rules}
use Rattle.shelf.proofs.reading.procedure_of.Goals as goal

pub returns : goal.returns
returns c = search rules
