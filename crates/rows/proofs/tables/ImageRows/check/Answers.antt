use Rattle.std.proofs.Common.{rules}
use Rattle.rows.proofs.tables.ImageRows.check.Goals as goal

pub returns : goal.returns
returns c = search rules
