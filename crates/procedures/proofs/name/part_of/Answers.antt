use Rattle.std.proofs.Common.{rules}
use Rattle.procedures.proofs.name.part_of.Goals as goal

pub returns : goal.returns
returns c = search rules
