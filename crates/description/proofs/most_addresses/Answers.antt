use Rattle.std.proofs.Common.{rules}
use Rattle.description.proofs.most_addresses.Goals as goal

pub returns : goal.returns
returns c = search rules
