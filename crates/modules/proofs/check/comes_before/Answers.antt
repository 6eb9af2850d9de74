use Rattle.std.proofs.Common.{rules}
use Rattle.modules.proofs.Searches.{less_before}
use Rattle.modules.proofs.check.comes_before.Goals as goal

pub returns : goal.returns
returns g c = search (rules, less_before)
