use Rattle.std.proofs.Common.{rules}
use Rattle.hiding.proofs.Hiding.over.Goals as goal

pub returns-clause-numbers : goal.returns-clause-numbers
returns-clause-numbers g c = search rules
