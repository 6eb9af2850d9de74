-- One check after another: the first mistake ends them. Assumes nothing.
use Rattle.std.specs.Prelude.{Ok, Err, Result}
use Rattle.description.specs.declared.mistake.Mistake.{Mistake}

abbrev pub Checked : Type 0 → Type 0
Checked X = Result X Mistake

abbrev pub and_then : {X Y E : Type 0} → Result X E → (X → Result Y E) → Result Y E
and_then (Ok x) k = k x
and_then (Err e) k = Err e
