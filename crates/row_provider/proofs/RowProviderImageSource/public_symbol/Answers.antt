use Rattle.std.proofs.Common.{rules}
use Rattle.row_provider.proofs.RowProviderImageSource.public_symbol.Goals as goal

pub returns : goal.returns
returns c = search rules
