use Rattle.std.proofs.Common.{length}
use Rattle.bench.proofs.ask.tally_list.Given as goal

abbrev pub decreases-loop-function : goal.decreases-loop-function
decreases-loop-function g l = length l.cursor.addresses.now
