-- A shelf that holds what reading its module gives answers as an empty one. Assumes nothing.
use Rattle.std.proofs.Common.{◌≡◌, ℕ, true, false, eqb, List, Some, None, Ok, Err, Option, Result, sym, refl, ap, ◌∙◌, subst, ⊎_elim}
use Rattle.std.proofs.lemmas.Bool.{both_ways, cases_Bool, cond-true, cond-false, eqb-true, eq-eqb}
use Rattle.base.specs.declared.refusal.Refusal.{Refusal}
use Rattle.building.specs.Outcome.{Built}
use Rattle.provider.specs.Modules.{Modules}
use Rattle.procedures.specs.declared.row.Procedure.{Procedure}
use Rattle.procedures.specs.declared.function.Location.{Location}
use Rattle.lookup.specs.Reading.{Shelved, empty_shelf, reading, filled, bears, shelve}
use Rattle.lookup.specs.Places.{locate}
use Rattle.lookup.specs.Finding.{answered, find_located, find_function}
use Rattle.lookup.proofs.Choosing.{some_is, none-some}

-- a shelf with a holder holds what reading that module gives
abbrev pub Sound : Modules → Shelved → Type 0
Sound ms s = (m : ℕ) → s.holder ≡ Some m → reading m (ms.at m) ≡ Ok (Some s.procedures)

pub sound_empty : (ms : Modules) → Sound ms empty_shelf
sound_empty ms m e = absurd (none-some m e)

bears-holder : (m : ℕ) (o : Option ℕ) → bears m o ≡ true → o ≡ Some m
bears-holder m None h = absurd (both_ways false refl h)
bears-holder m (Some n) h = ap Some (eqb-true n m h)

-- a sound shelf gives of every module what an empty one gives
pub sound_shelve : (ms : Modules) (m : ℕ) (s : Shelved) → Sound ms s → shelve ms m s ≡ shelve ms m empty_shelf
sound_shelve ms m s h =
    ⊎_elim
    (λ b.
    let e : s.holder ≡ Some m = bears-holder m s.holder b in
    cond-true (bears m s.holder) (record { refusal = None; shelf = s }) (filled m (reading m (ms.at m))) b ∙
    ap (λ o. record { refusal = None; shelf = record { holder = o; procedures = s.procedures } }) e ∙
    ap (filled m) (sym (h m e)))
    (λ b. cond-false (bears m s.holder) (record { refusal = None; shelf = s }) (filled m (reading m (ms.at m))) b)
    (cases_Bool (bears m s.holder))

sound_filled : (ms : Modules) (m : ℕ) (r : Result (Option (List Procedure)) Refusal) → reading m (ms.at m) ≡ r → Sound ms (filled m r).shelf
sound_filled ms m (Ok None) e = sound_empty ms
sound_filled ms m (Ok (Some ps)) e = λ n k. subst (λ i. reading i (ms.at i) ≡ Ok (Some ps)) (some_is m n k) e
sound_filled ms m (Err x) e = sound_empty ms

pub sound_shelved : (ms : Modules) (m : ℕ) (s : Shelved) → Sound ms s → Sound ms (shelve ms m s).shelf
sound_shelved ms m s h =
    subst (λ w. Sound ms w.shelf) (sym (sound_shelve ms m s h)) (sound_filled ms m (reading m (ms.at m)) refl)

-- a module wanted again is shelved as it was, whatever the shelf held before
filled_again : (ms : Modules) (m : ℕ) (r : Result (Option (List Procedure)) Refusal) → reading m (ms.at m) ≡ r → shelve ms m (filled m r).shelf ≡ filled m r
filled_again ms m (Ok None) e = ap (filled m) e
filled_again ms m (Ok (Some ps)) e = cond-true (eqb m m) _ _ (eq-eqb m m refl)
filled_again ms m (Err x) e = ap (filled m) e

pub shelve_again : (ms : Modules) (m : ℕ) (s : Shelved) → shelve ms m (shelve ms m s).shelf ≡ shelve ms m s
shelve_again ms m s =
    ⊎_elim
    (λ b.
    let e : shelve ms m s ≡ record { refusal = None; shelf = s } = cond-true (bears m s.holder) (record { refusal = None; shelf = s }) (filled m (reading m (ms.at m))) b in
    ap (λ w. shelve ms m w.shelf) e)
    (λ b.
    let e : shelve ms m s ≡ filled m (reading m (ms.at m)) = cond-false (bears m s.holder) (record { refusal = None; shelf = s }) (filled m (reading m (ms.at m))) b in
    ap (λ w. shelve ms m w.shelf) e ∙ filled_again ms m (reading m (ms.at m)) refl ∙ sym e)
    (cases_Bool (bears m s.holder))

module _ (text : List ℕ) (ms : Modules) (c : Built) where
  -- where an address lies does not depend on the shelf
  located_fresh : (o : Option Location) (s : Shelved) → Sound ms s → (find_located text ms c o s).answer ≡ (find_located text ms c o empty_shelf).answer
  located_fresh None s h = refl
  located_fresh (Some l) s h =
      ap (λ w. answered text c l w.refusal w.shelf) (sound_shelve ms l.contribution.«module» s h)

  located_sound : (o : Option Location) (s : Shelved) → Sound ms s → Sound ms (find_located text ms c o s).shelf
  located_sound None s h = h
  located_sound (Some l) s h = sound_shelved ms l.contribution.«module» s h

  pub function_fresh : (a : ℕ) (s : Shelved) → Sound ms s → (find_function text ms c a s).answer ≡ (find_function text ms c a empty_shelf).answer
  function_fresh a s h = located_fresh (locate c a) s h

  pub function_sound : (a : ℕ) (s : Shelved) → Sound ms s → Sound ms (find_function text ms c a s).shelf
  function_sound a s h = located_sound (locate c a) s h
