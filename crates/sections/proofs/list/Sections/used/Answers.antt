use Rattle.std.proofs.Common.{rules}
use Rattle.sections.proofs.list.Sections.used.Goals as goal

pub returns : goal.returns
returns c = search rules
