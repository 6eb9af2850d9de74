use Rattle.std.proofs.Common.{rules}
use Rattle.resolver.proofs.cursor.Cursor.next.Goals as goal

pub returns-in-Ok-Some-clause-rest : goal.returns-in-Ok-Some-clause-rest
returns-in-Ok-Some-clause-rest g c = search rules

pub loop-first-preserved : goal.loop-first-preserved
loop-first-preserved g c = search rules
