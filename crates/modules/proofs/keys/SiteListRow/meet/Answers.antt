use Rattle.std.proofs.Common.{rules}
use Rattle.modules.proofs.keys.SiteListRow.meet.Goals as goal

pub returns : goal.returns
returns c = search rules
