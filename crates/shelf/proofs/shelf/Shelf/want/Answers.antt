use Rattle.std.proofs.Common.{rules}
use Rattle.shelf.proofs.shelf.Shelf.want.Goals as goal

pub returns-in-Present-clause-answer : goal.returns-in-Present-clause-answer
returns-in-Present-clause-answer g c = search rules

pub returns-in-Present-clause-shelf : goal.returns-in-Present-clause-shelf
returns-in-Present-clause-shelf g c = search rules

pub load-requires : goal.load-requires
load-requires g c = search rules

pub returns-in-Absent : goal.returns-in-Absent
returns-in-Absent g c = search rules
