use Rattle.std.proofs.Common.{rules}
use Rattle.rows.proofs.source.RowSource.empty.Goals as goal

pub returns : goal.returns
returns c = search rules
