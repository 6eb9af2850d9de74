use Rattle.std.proofs.Common.{rules}
use Rattle.row_provider.proofs.RowProviderImageSource.text.Goals as goal

pub returns : goal.returns
returns c = search rules
