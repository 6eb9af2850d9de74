use Rattle.std.proofs.Common.{rules}
use Rattle.description.proofs.most_starts.Goals as goal

pub returns : goal.returns
returns c = search rules
