use Rattle.std.proofs.Common.{rules}
use Rattle.words.proofs.quote.unquote.Goals as goal

pub returns-then-is_err-clause-outcome : goal.returns-then-is_err-clause-outcome
returns-then-is_err-clause-outcome c = search rules

pub returns-then-is_err-clause-room : goal.returns-then-is_err-clause-room
returns-then-is_err-clause-room c = search rules
