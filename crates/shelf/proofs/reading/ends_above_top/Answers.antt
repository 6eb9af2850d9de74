use Rattle.std.proofs.Common.{rules}
use Rattle.shelf.proofs.reading.ends_above_top.Goals as goal

pub returns : goal.returns
returns c = search rules
