use Rattle.std.proofs.Common.{rules}
use Rattle.opening.proofs.Opened.{opened_means}
use Rattle.opening.proofs.open.Goals as goal

pub returns-clause-modules : goal.returns-clause-modules
returns-clause-modules c = search (rules, opened_means)
