use Rattle.std.proofs.Common.{rules}
use Rattle.ranges.proofs.calls.InlineCalls.used.Goals as goal

pub returns : goal.returns
returns c = search rules
