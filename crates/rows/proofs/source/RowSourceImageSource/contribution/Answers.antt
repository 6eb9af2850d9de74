use Rattle.std.proofs.Common.{rules}
use Rattle.rows.proofs.source.RowSourceImageSource.contribution.Goals as goal

pub returns : goal.returns
returns c = search rules
