use Rattle.std.proofs.Common.{rules}
use Rattle.rows.proofs.source.RowSourceImageSource.public_symbol.Goals as goal

pub returns : goal.returns
returns c = search rules
