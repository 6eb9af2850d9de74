use Rattle.std.proofs.Common.{rules}
use Rattle.description.proofs.push.one_more.Goals as goal

pub returns-in_err-count : goal.returns-in_err-count
returns-in_err-count c = search rules
