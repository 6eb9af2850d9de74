use Rattle.std.proofs.Common.{rules}
use Rattle.provider.proofs.symbols.SymbolRecordPart.is_within.Goals as goal

pub returns-in-Procedure : goal.returns-in-Procedure
returns-in-Procedure c = search rules

pub returns-in-SeparatedCode : goal.returns-in-SeparatedCode
returns-in-SeparatedCode c = search rules
