use Rattle.std.proofs.Common.{rules}
use Rattle.shelf.proofs.shelf.Shelf.bears.Goals as goal

pub returns : goal.returns
returns c = search rules
