use Rattle.std.proofs.Common.{rules}
use Rattle.addresses.proofs.AddressRow.meet.Goals as goal

pub returns : goal.returns
returns c = search rules
