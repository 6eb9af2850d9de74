use Rattle.std.proofs.Common.{rules}
use Rattle.sections.proofs.is_outside.Goals as goal

pub returns-then-item-ge-MOST_SECTIONS : goal.returns-then-item-ge-MOST_SECTIONS
returns-then-item-ge-MOST_SECTIONS c = search rules

pub returns-else-item-ge-MOST_SECTIONS : goal.returns-else-item-ge-MOST_SECTIONS
returns-else-item-ge-MOST_SECTIONS c = search rules
