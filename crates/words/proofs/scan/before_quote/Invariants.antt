use Rattle.std.proofs.Common.{◌≡◌, false, drop}
use Rattle.words.specs.Lines.{before_quote}
use Rattle.words.proofs.scan.before_quote.Given as goal

abbrev pub invariant-loop-i : goal.invariant-loop-i
invariant-loop-i l = before_quote l.i l.escaped (drop l.i l.bytes) ≡ before_quote 0 false l.bytes
