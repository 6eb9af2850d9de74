use Rattle.std.proofs.Common.{rules}
use Rattle.provider.proofs.symbols.SymbolRecordRow.meet.Goals as goal

pub returns : goal.returns
returns c = search rules
