-- One thing after another, unless the first is refused, and what a call leaves. Assumes nothing.
use Rattle.std.specs.Prelude.{Ok, Err, Result}
use Rattle.base.specs.declared.refusal.Refusal.{Refusal}

abbrev pub then : {X Y : Type 0} → Result X Refusal → (X → Result Y Refusal) → Result Y Refusal
then (Ok x) next = next x
then (Err e) next = Err e

-- what a granted call leaves, or its refusal
abbrev pub leaves : {U X : Type 0} → Result U Refusal → X → Result X Refusal
leaves (Ok u) x = Ok x
leaves (Err e) x = Err e
