use Rattle.std.proofs.Common.{arith}
use Rattle.std.proofs.lemmas.Grind.{common_steps}
use Rattle.words.proofs.scan.next_word.Goals as goal

pub returns-in_err-end-in-34 : goal.returns-in_err-end-in-34
returns-in_err-end-in-34 c = grind (arith, common_steps)

pub returns-in_ok-end-in-34 : goal.returns-in_ok-end-in-34
returns-in_ok-end-in-34 c = grind (arith, common_steps)

pub returns-in_default : goal.returns-in_default
returns-in_default c = grind (arith, common_steps)

pub returns-in-empty : goal.returns-in-empty
returns-in-empty c = grind (arith, common_steps)
