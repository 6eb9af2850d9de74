use Rattle.std.proofs.Common.{◌≡◌, drop}
use Rattle.hiding.specs.Hidden.{among}
use Rattle.hiding.proofs.is_among.Given as goal

-- what is left decides
abbrev pub invariant-loop-used : goal.invariant-loop-used
invariant-loop-used l = among l.numbers l.number ≡ among (drop l.used-index l.numbers) l.number
