use Rattle.std.proofs.Common.{rules}
use Rattle.description.proofs.push.push_row.Goals as goal

pub returns-clause-added : goal.returns-clause-added
returns-clause-added c = search rules
