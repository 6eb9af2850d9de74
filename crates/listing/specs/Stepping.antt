-- From function to function. Assumes nothing.
use Rattle.std.specs.Prelude.{ℕ, List, [], ◌∷◌, Some, None, Ok, Err, Option}
use Rattle.building.specs.Outcome.{Built}
use Rattle.provider.specs.Modules.{Modules}
use Rattle.procedures.specs.declared.function.Function.{Function}
use Rattle.lookup.specs.Reading.{Shelved}
use Rattle.lookup.specs.Finding.{find_function}
use Rattle.addresses.specs.declared.Address.{Address}

-- a function, the addresses that are still to come, and the shelf that is left
pub record Stepped : Type 0 where
  pub function : Option Function
  pub rest : List Address
  pub shelf : Shelved

-- a step looks up one address after the other; those without a function and those that are refused are passed over
abbrev pub step : List ℕ → Modules → Built → List Address → Shelved → Stepped
step text ms c [] s = record { function = None; rest = []; shelf = s }
step text ms c (a ∷ xs) s =
    let found = find_function text ms c a.rva s in
    elim found.answer [
      | Ok (Some f) ↦ record { function = Some f; rest = xs; shelf = found.shelf }
      | Ok None ↦ step text ms c xs found.shelf
      | Err e ↦ step text ms c xs found.shelf
    ]
