use Rattle.std.proofs.Common.{rules}
use Rattle.shelf.proofs.stretches.along.Goals as goal

pub returns : goal.returns
returns c = search rules
