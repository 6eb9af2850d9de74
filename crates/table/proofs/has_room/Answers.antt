use Rattle.std.proofs.Common.{rules}
use Rattle.table.proofs.has_room.Goals as goal

pub returns : goal.returns
returns g c = search rules
