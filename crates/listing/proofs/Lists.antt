-- What the list of functions holds, in other words. Assumes nothing.
use Rattle.std.proofs.Common.{◌≡◌, ℕ, zero, suc, ◌+◌, ◌≤◌, Bool, true, false, eqb, ◌&&◌, ◌||◌, List, [], ◌∷◌, ◌++◌, map, length, is_some, Some, None, Ok, Err, Option, Result, sym, refl, ap, ◌∙◌, subst, ⊎_elim, arith}
use Rattle.std.proofs.lemmas.Bool.{cases_Bool, eqb-true}
use Rattle.std.proofs.lemmas.List.{map-append}
use Rattle.std.proofs.lemmas.List.Folds.{list_any-append}
use Rattle.std.specs.List.{list_any}
use Rattle.order.specs.declared.Meeting.TheVariants.{Both}
use Rattle.order.specs.Rank.{before, Rises, at}
use Rattle.order.specs.Placed.{placed}
use Rattle.order.proofs.Rows.{pairwise-none, rises-placed, at-placed_away, at-placed_here}
use Rattle.base.specs.declared.image.Section.{Section}
use Rattle.base.specs.declared.image.SectionOffset.{SectionOffset}
use Rattle.base.specs.declared.refusal.Refusal.{Refusal}
use Rattle.building.specs.Outcome.{Built}
use Rattle.provider.specs.Modules.{Modules}
use Rattle.procedures.specs.declared.row.Procedure.{Procedure}
use Rattle.lookup.specs.Reading.{Shelved, empty_shelf, reading, filled}
use Rattle.lookup.proofs.Sound.{Sound, sound_empty, sound_shelve, sound_shelved}
use Rattle.inlining.specs.Steps.{then}
use Rattle.addresses.specs.Rows.{address_rank, address_meets}
use Rattle.addresses.specs.declared.Address.{Address}
use Rattle.listing.specs.Listing.{rva_of, with_address, with_offsets, start_offset, procedure_offset, with_modules, listed}
use Rattle.listing.specs.Laws.{procedures_or, all_procedures, places, is_at, Lists}
use Rattle.listing.proofs.History.{after_procedures, after_wanted, after_starts}
use Rattle.listing.proofs.Offsets.{fitting, with_place, offsets_append, offsets_keep, offsets_few}

-- a list has just the addresses of these places, and rises
record Holds (sections : List Section) (os : List SectionOffset) (xs : List Address) : Type 0 where
  pub rises : Rises address_rank xs
  pub gives : (a : ℕ) → is_some (at address_rank (a ∷ []) xs) ≡ list_any (is_at sections a) os

or_true : (b : Bool) → (b || true) ≡ true
or_true true = refl
or_true false = refl

or_false : (b : Bool) → (b || false) ≡ b
or_false true = refl
or_false false = refl

and_true : (b : Bool) → (b && true) ≡ b
and_true true = refl
and_true false = refl

never_both : (x r : Address) → address_meets x r ≡ Both → ⊥
never_both x r e = cc

abbrev is_that : ℕ → Option ℕ → Bool
is_that a None = false
is_that a (Some b) = eqb b a

placed_gives : (a b : ℕ) (xs : List Address) → Rises address_rank xs → is_some (at address_rank (a ∷ []) (placed address_rank address_meets (record { rva = b }) xs)) ≡ (is_some (at address_rank (a ∷ []) xs) || eqb b a)
placed_gives a b xs h =
    let new : Address = record { rva = b } in
    ⊎_elim
    (λ e.
    let f : b ≡ a = eqb-true b a e in
    ap (λ q. is_some (at address_rank (q ∷ []) (placed address_rank address_meets new xs))) (sym f) ∙
    ap is_some (at-placed_here address_rank address_meets new xs h) ∙
    sym (ap (λ t. is_some (at address_rank (a ∷ []) xs) || t) e ∙ or_true (is_some (at address_rank (a ∷ []) xs))))
    (λ e.
    ap is_some (at-placed_away address_rank address_meets (a ∷ []) new xs (and_true (eqb b a) ∙ e)) ∙
    sym (ap (λ t. is_some (at address_rank (a ∷ []) xs) || t) e ∙ or_false (is_some (at address_rank (a ∷ []) xs))))
    (cases_Bool (eqb b a))

module _ (rows : ℕ) (sections : List Section) where
  address_rises : (r : Option ℕ) (xs ys : List Address) → Rises address_rank xs → with_address rows xs r ≡ Ok ys → Rises address_rank ys
  address_rises None xs ys h e = let f : xs ≡ ys = cc in subst (Rises address_rank) f h
  address_rises (Some b) xs ys h e =
      subst (Rises address_rank) (fitting rows (placed address_rank address_meets (record { rva = b }) xs) ys e).0
      (rises-placed address_rank address_meets never_both (record { rva = b }) xs h)

  address_gives : (a : ℕ) (r : Option ℕ) (xs ys : List Address) → Rises address_rank xs → with_address rows xs r ≡ Ok ys → is_some (at address_rank (a ∷ []) ys) ≡ (is_some (at address_rank (a ∷ []) xs) || is_that a r)
  address_gives a None xs ys h e =
      let f : xs ≡ ys = cc in ap (λ zs. is_some (at address_rank (a ∷ []) zs)) (sym f) ∙ sym (or_false (is_some (at address_rank (a ∷ []) xs)))
  address_gives a (Some b) xs ys h e =
      ap (λ zs. is_some (at address_rank (a ∷ []) zs)) (sym (fitting rows (placed address_rank address_meets (record { rva = b }) xs) ys e).0) ∙ placed_gives a b xs h

  -- one place more
  holds_more : (os : List SectionOffset) (xs : List Address) (o : SectionOffset) (ys : List Address) → Holds sections os xs → with_place rows sections o xs ≡ Ok ys → Holds sections (os ++ o ∷ []) ys
  holds_more os xs o ys h e = record {
    rises = address_rises (rva_of sections o) xs ys h.rises e;
    gives = λ a.
        address_gives a (rva_of sections o) xs ys h.rises e ∙
        ap (λ b. b || is_at sections a o) (h.gives a) ∙
        sym (list_any-append (is_at sections a) os (o ∷ []) ∙ ap (λ b. list_any (is_at sections a) os || b) (or_false (is_at sections a o)));
  }

  holds_none : Holds sections [] []
  holds_none = record { rises = pairwise-none (λ x y. before (address_rank x) (address_rank y)); gives = λ a. refl }

  module _ (ms : Modules) where
    -- the places of the modules from number k on
    abbrev rest : ℕ → ℕ → List SectionOffset
    rest k left = map procedure_offset (all_procedures ms k left)

    abbrev Comes : ℕ → ℕ → Type 0
    Comes k left =
        (xs ys : List Address) (s : Shelved) → Sound ms s → (with_modules ms sections rows k left xs s).answer ≡ Ok ys → with_offsets rows sections xs (rest k left) ≡ Ok ys

    procedures_come : (k left : ℕ) (ps : List Procedure) (s : Shelved) (xs ys : List Address) → Sound ms s → Comes k left → (after_procedures ms sections rows k left s (with_offsets rows sections xs (map procedure_offset ps))).answer ≡ Ok ys → with_offsets rows sections xs (map procedure_offset (ps ++ all_procedures ms k left)) ≡ Ok ys
    procedures_come k left ps s xs ys h next g =
        ap (with_offsets rows sections xs) (map-append procedure_offset ps (all_procedures ms k left)) ∙
        offsets_append rows sections xs (map procedure_offset ps) (rest k left) ∙
        (elim (with_offsets rows sections xs (map procedure_offset ps)) as (λ r. (after_procedures ms sections rows k left s r).answer ≡ Ok ys → then r (λ zs. with_offsets rows sections zs (rest k left)) ≡ Ok ys) [
          | Ok zs ↦ λ e. next zs ys s h e
          | Err x ↦ λ e. absurd (cc)
        ]) g

    module_comes : (k left : ℕ) (r : Result (Option (List Procedure)) Refusal) (xs ys : List Address) → Sound ms (filled k r).shelf → Comes (k + 1) left → (after_wanted ms sections rows (k + 1) left xs (filled k r).shelf (filled k r).refusal).answer ≡ Ok ys → with_offsets rows sections xs (map procedure_offset (procedures_or r ++ all_procedures ms (k + 1) left)) ≡ Ok ys
    module_comes k left (Ok None) xs ys h next e = next xs ys empty_shelf h e
    module_comes k left (Ok (Some ps)) xs ys h next e = procedures_come (k + 1) left ps (record { holder = Some k; procedures = ps }) xs ys h next e
    module_comes k left (Err x) xs ys h next e = absurd (cc)

    modules_come : (k left : ℕ) → Comes k left
    modules_come k zero xs ys s h e = e
    modules_come k (suc left) xs ys s h e =
        module_comes k left (reading k (ms.at k)) xs ys (sound_shelved ms k empty_shelf (sound_empty ms)) (modules_come (k + 1) left)
        (subst (λ w. (after_wanted ms sections rows (k + 1) left xs w.shelf w.refusal).answer ≡ Ok ys) (sound_shelve ms k s h) e)

module _ (ms : Modules) (c : Built) where
  -- a list that is given is that of all the places
  pub listed_places : (rows : ℕ) (s : Shelved) (xs : List Address) → Sound ms s → (listed ms c rows s).answer ≡ Ok xs → with_offsets rows c.sections [] (places ms c) ≡ Ok xs
  listed_places rows s xs h g =
      offsets_append rows c.sections [] (map start_offset c.starts) (rest rows c.sections ms 0 ms.count) ∙
      (elim (with_offsets rows c.sections [] (map start_offset c.starts)) as (λ r. (after_starts ms c rows s r).answer ≡ Ok xs → then r (λ zs. with_offsets rows c.sections zs (rest rows c.sections ms 0 ms.count)) ≡ Ok xs) [
        | Ok zs ↦ λ e. modules_come rows c.sections ms 0 ms.count zs xs s h e
        | Err x ↦ λ e. absurd (cc)
      ]) g

  -- it fits
  pub listed_few : (rows : ℕ) (s : Shelved) (xs : List Address) → Sound ms s → (listed ms c rows s).answer ≡ Ok xs → length xs ≤ rows
  listed_few rows s xs h e = offsets_few rows c.sections [] (places ms c) xs (omega arith) (listed_places rows s xs h e)

  pub lists : Lists ms c
  lists rows xs e =
      let h = offsets_keep rows c.sections (Holds c.sections) (holds_more rows c.sections) [] [] (places ms c) xs (holds_none rows c.sections) (listed_places rows empty_shelf xs (sound_empty ms) e) in
      (h.rises, h.gives)
