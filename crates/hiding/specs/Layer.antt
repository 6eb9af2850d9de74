-- What a layer shows. Assumes nothing.
use Rattle.std.specs.Prelude.{ℕ, List, take}
use Rattle.hiding.specs.declared.Hiding.{Hiding}

-- the provider that it lies over
abbrev pub below : {P : Type 0} → Hiding P → P
below h = h.below

-- the numbers of the modules that it hides
abbrev pub hidden : {P : Type 0} → Hiding P → List ℕ
hidden h = take h.count h.numbers
