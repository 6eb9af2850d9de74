use Rattle.std.proofs.Common.{rules}
use Rattle.row_provider.proofs.RowProviderModuleProvider.site_row.Goals as goal

pub returns : goal.returns
returns c = search rules
