use Rattle.std.proofs.Common.{rules}
use Rattle.base.proofs.image.SectionSpan.start.Goals as goal

pub returns : goal.returns
returns c = search rules
