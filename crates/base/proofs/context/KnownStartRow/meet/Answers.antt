use Rattle.std.proofs.Common.{rules}
use Rattle.base.proofs.context.KnownStartRow.meet.Goals as goal

pub returns-in-None-Some : goal.returns-in-None-Some
returns-in-None-Some c = search rules
