use Rattle.std.proofs.Common.{◌≡◌, ◌^◌, ◌≤◌, drop}
use Rattle.words.specs.Numbers.{read_on}
use Rattle.words.proofs.number.in_base.Given as goal

abbrev pub invariant-loop-b : goal.invariant-loop-b
invariant-loop-b l = record {
  read : read_on l.base l.value (drop l.b-index l.digits) ≡ read_on l.base 0 l.digits;
  capped : l.value ≤ 2 ^ 32;
}
