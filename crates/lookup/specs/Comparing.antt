-- Whether two addresses have the same extent. Assumes nothing.
use Rattle.std.specs.Prelude.{ℕ, Bool, true, false, ◌&&◌, List, Some, None, Ok, Err, Option, Result, ◌==◌}
use Rattle.base.specs.declared.refusal.Refusal.{Refusal}
use Rattle.building.specs.Outcome.{Built}
use Rattle.provider.specs.Modules.{Modules}
use Rattle.procedures.specs.declared.function.Function.{Function}
use Rattle.lookup.specs.Reading.{Shelved}
use Rattle.lookup.specs.Finding.{Found, find_function}

abbrev pub same_end : Option ℕ → Option ℕ → Bool
same_end None None = true
same_end None (Some n) = false
same_end (Some m) None = false
same_end (Some m) (Some n) = m == n

-- none where one of the two has no function
abbrev pub same_extent : Option Function → Option Function → Option Bool
same_extent None g = None
same_extent (Some f) None = None
same_extent (Some f) (Some g) = Some (f.start_rva == g.start_rva && same_end f.end_rva g.end_rva)

pub record Comparison : Type 0 where
  pub answer : Result (Option Bool) Refusal
  pub shelf : Shelved

abbrev pub with_second : Option Function → Found → Comparison
with_second f second = record { answer = elim second.answer [ Ok g ↦ Ok (same_extent f g) | Err e ↦ Err e ]; shelf = second.shelf }

-- the second address is looked up with the shelf that the first one leaves, unless that is refused
abbrev pub with_first : Found → (Shelved → Found) → Comparison
with_first first look_up = elim first.answer [ Ok f ↦ with_second f (look_up first.shelf) | Err e ↦ record { answer = Err e; shelf = first.shelf } ]

abbrev pub compare : List ℕ → Modules → Built → ℕ → ℕ → Shelved → Comparison
compare text ms c a b s = with_first (find_function text ms c a s) (find_function text ms c b)
