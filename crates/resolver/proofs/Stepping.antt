-- A step along a list that finds a function leaves fewer addresses. Assumes nothing.
use Rattle.std.proofs.Common.{◌≡◌, ℕ, ◌<◌, List, [], ◌∷◌, length, Some, None, Ok, Err, Option, Result, arith}
use Rattle.base.specs.declared.refusal.Refusal.{Refusal}
use Rattle.building.specs.Outcome.{Built}
use Rattle.provider.specs.Modules.{Modules}
use Rattle.procedures.specs.declared.function.Function.{Function}
use Rattle.lookup.specs.Reading.{Shelved}
use Rattle.lookup.specs.Finding.{find_function}
use Rattle.addresses.specs.declared.Address.{Address}
use Rattle.listing.specs.Stepping.{Stepped, step}

module _ (text : List ℕ) (ms : Modules) (c : Built) where
  abbrev Shorter : List Address → Stepped → Type 0
  Shorter xs t = (f : Function) → t.function ≡ Some f → length t.rest < length xs

  -- a step, by what is found at the first address
  abbrev after_found : List Address → Shelved → Result (Option Function) Refusal → Stepped
  after_found xs s (Ok (Some f)) = record { function = Some f; rest = xs; shelf = s }
  after_found xs s (Ok None) = step text ms c xs s
  after_found xs s (Err e) = step text ms c xs s

  found_shorter : (a : Address) (xs : List Address) (s : Shelved) (r : Result (Option Function) Refusal) → ((z : Shelved) → Shorter xs (step text ms c xs z)) → Shorter (a ∷ xs) (after_found xs s r)
  found_shorter a xs s (Ok (Some g)) next f e = omega arith
  found_shorter a xs s (Ok None) next f e = omega (arith, next s f e)
  found_shorter a xs s (Err x) next f e = omega (arith, next s f e)

  pub shorter : (xs : List Address) (s : Shelved) → Shorter xs (step text ms c xs s)
  shorter [] s f e = absurd cc
  shorter (a ∷ xs) s f e =
      let found = find_function text ms c a.rva s in found_shorter a xs found.shelf found.answer (shorter xs) f e
