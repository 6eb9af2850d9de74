use Rattle.std.proofs.Common.{rules}
use Rattle.base.proofs.refusal.FaultyList.refuse.Goals as goal

pub returns : goal.returns
returns c = search rules
