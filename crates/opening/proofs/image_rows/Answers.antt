use Rattle.std.proofs.Common.{rules}
use Rattle.opening.proofs.image_rows.Goals as goal

pub returns : goal.returns
returns c = search rules
