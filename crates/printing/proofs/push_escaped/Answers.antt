use Rattle.std.proofs.Common.{rules}
use Rattle.printing.proofs.push_escaped.Goals as goal

pub returns-else-is_err-clause-refused : goal.returns-else-is_err-clause-refused
returns-else-is_err-clause-refused c = search rules

pub returns-then-is_err-clause-room : goal.returns-then-is_err-clause-room
returns-then-is_err-clause-room c = search rules
