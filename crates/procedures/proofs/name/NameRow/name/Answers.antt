use Rattle.std.proofs.Common.{rules}
use Rattle.procedures.proofs.name.NameRow.name.Goals as goal

pub returns-in-Id : goal.returns-in-Id
returns-in-Id c = search rules
