use Rattle.std.proofs.Common.{rules}
use Rattle.row_provider.proofs.RowProvider.empty.Goals as goal

pub returns-clause-modules : goal.returns-clause-modules
returns-clause-modules c = search rules
