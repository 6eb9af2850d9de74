use Rattle.std.proofs.Common.{rules}
use Rattle.opening.proofs.Tables.{held_means, held_bad}
use Rattle.opening.proofs.module_rows.Goals as goal

pub returns-clause-means : goal.returns-clause-means
returns-clause-means c = search (rules, held_means)

pub returns-clause-bad : goal.returns-clause-bad
returns-clause-bad c = search (rules, held_bad)
