use Rattle.std.proofs.Common.{◌≡◌, drop}
use Rattle.hiding.specs.Hidden.{with_each}
use Rattle.hiding.specs.Layer.{below, hidden}
use Rattle.opening.proofs.hide_each.Given as goal

-- what is left does the rest
abbrev pub invariant-loop-number : goal.invariant-loop-number
invariant-loop-number g l = record {
  below : below l.layer ≡ below l.initial.layer;
  numbers : with_each l.numbers (hidden l.initial.layer) ≡ with_each (drop l.number-index l.numbers) (hidden l.layer);
}
