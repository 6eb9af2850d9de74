use Rattle.std.proofs.Common.{rules}
use Rattle.rows.proofs.source.RowSourceImageSource.text.Goals as goal

pub returns : goal.returns
returns c = search rules
