use Rattle.std.proofs.Common.{rules}
use Rattle.description.proofs.fields.Fields.section.Goals as goal

pub returns : goal.returns
returns c = search rules
