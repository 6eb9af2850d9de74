use Rattle.std.proofs.Common.{rules}
use Rattle.extents.proofs.holds.holds.Goals as goal

pub returns-then-section-offset : goal.returns-then-section-offset
returns-then-section-offset c = search rules
