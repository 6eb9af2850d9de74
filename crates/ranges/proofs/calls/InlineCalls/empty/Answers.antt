use Rattle.std.proofs.Common.{rules}
use Rattle.ranges.proofs.calls.InlineCalls.empty.Goals as goal

pub returns : goal.returns
returns c = search rules
