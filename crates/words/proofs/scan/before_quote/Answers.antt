use Rattle.std.proofs.Common.{arith}
use Rattle.std.proofs.lemmas.List.{at_drop_more}
use Rattle.words.specs.Lines.{before_quote}
use Rattle.words.proofs.scan.before_quote.Goals as goal

pub loop-i-preserved : goal.loop-i-preserved
loop-i-preserved c = grind (arith, at_drop_more (before_quote c.loop-i.i c.loop-i.escaped) c.args.bytes.now c.loop-i.i 0 c.loop-i-test.true)
