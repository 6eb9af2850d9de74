use Rattle.std.proofs.Common.{arith}
use Rattle.std.proofs.lemmas.Grind.{common_steps}
use Rattle.words.proofs.Digits.{one_more}
use Rattle.words.proofs.number.in_base.Goals as goal

pub loop-b-preserved : goal.loop-b-preserved
loop-b-preserved c = grind (arith, one_more c.args.base c.loop-b.value c.min-value.result c.in_ok-digit.digit c.loop-b.b-index c.args.digits.now c.loop-b-test.true)

pub returns-in_err-digit : goal.returns-in_err-digit
returns-in_err-digit c = grind (arith, common_steps)

pub returns : goal.returns
returns c = grind (arith, common_steps)
