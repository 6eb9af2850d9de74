use Rattle.std.proofs.Common.{length}
use Rattle.resolve.proofs.report.list.write_listed.Given as goal

abbrev pub decreases-loop-function : goal.decreases-loop-function
decreases-loop-function g l = length l.cursor.addresses.now
