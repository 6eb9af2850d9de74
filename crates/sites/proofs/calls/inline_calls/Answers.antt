use Rattle.std.proofs.Common.{rules}
use Rattle.sites.proofs.calls.inline_calls.Goals as goal

-- the search finds it without this too; a false one keeps it busy then
pub returns : goal.returns
returns g c = search rules
