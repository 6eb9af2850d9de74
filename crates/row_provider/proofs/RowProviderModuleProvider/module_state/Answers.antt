use Rattle.std.proofs.Common.{rules}
use Rattle.row_provider.proofs.RowProviderModuleProvider.module_state.Goals as goal

pub returns : goal.returns
returns c = search rules
