use Rattle.std.proofs.Common.{rules}
use Rattle.description.proofs.fields.Fields.end.Goals as goal

pub returns-in-Some : goal.returns-in-Some
returns-in-Some c = search rules
