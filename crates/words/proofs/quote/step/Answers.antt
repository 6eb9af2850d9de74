use Rattle.std.proofs.Common.{rules}
use Rattle.words.proofs.quote.step.Goals as goal

pub returns-in_ok-hex_digit-in-Low : goal.returns-in_ok-hex_digit-in-Low
returns-in_ok-hex_digit-in-Low c = search rules
