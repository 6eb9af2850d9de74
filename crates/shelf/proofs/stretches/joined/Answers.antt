use Rattle.std.proofs.Common.{rules}
use Rattle.shelf.proofs.stretches.joined.Goals as goal

pub returns : goal.returns
returns c = search rules
