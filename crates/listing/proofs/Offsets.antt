-- The addresses of places, one place after the other. Assumes nothing.
use Rattle.std.proofs.Common.{◌≡◌, ℕ, ◌+◌, ◌<◌, ◌≤◌, ltb, List, [], ◌∷◌, ◌++◌, map, length, take, get_or, Some, None, Ok, Err, Option, Result, sym, refl, ap, ◌∙◌, subst, ⊎_elim, append_assoc, append-nil, add-one, drop, drop-cons}
use Rattle.std.proofs.lemmas.Bool.{cases_Bool, cond-true, cond-false, ltb-false}
use Rattle.std.proofs.lemmas.List.{map-append, take_more, take-append-drop}
use Rattle.std.specs.List.{slice_get}
use Rattle.order.specs.Placed.{placed}
use Rattle.base.specs.declared.image.Section.{Section}
use Rattle.base.specs.declared.image.SectionOffset.{SectionOffset}
use Rattle.base.specs.declared.refusal.Refusal.{Refusal}
use Rattle.base.specs.declared.refusal.Refusal.TheVariants.{AddressTableFull}
use Rattle.building.proofs.Items.{item_take}
use Rattle.inlining.specs.Steps.{then}
use Rattle.addresses.specs.Rows.{address_rank, address_meets}
use Rattle.addresses.specs.declared.Address.{Address}
use Rattle.listing.specs.Listing.{rva_of, all_fit, with_address, with_offsets}

-- what fits is granted as it is
pub fitting : (rows : ℕ) (xs ys : List Address) → all_fit rows xs ≡ Ok ys → (xs ≡ ys) × (length ys ≤ rows)
fitting rows xs ys h =
    ⊎_elim
    (λ b. let e = cond-true (ltb rows (length xs)) (Err AddressTableFull) (Ok xs) b in absurd (cc))
    (λ b.
    let e = cond-false (ltb rows (length xs)) (Err AddressTableFull) (Ok xs) b in
    let f : xs ≡ ys = cc in
    (f, subst (λ zs. length zs ≤ rows) f (ltb-false rows (length xs) b)))
    (cases_Bool (ltb rows (length xs)))

then-last : {X Y : Type 0} (r : Result X Refusal) (next : X → Result Y Refusal) → then r (λ x. then (next x) (λ y. Ok y)) ≡ then r next
then-last (Ok x) next = elim (next x) as (λ r. then r (λ y. Ok y) ≡ r) [ Ok y ↦ refl | Err e ↦ refl ]
then-last (Err e) next = refl

then_then : {X Y Z : Type 0} (r : Result X Refusal) (next : X → Result Y Refusal) (last : Y → Result Z Refusal) → then (then r next) last ≡ then r (λ x. then (next x) last)
then_then (Ok x) next last = refl
then_then (Err e) next last = refl

module _ (rows : ℕ) (sections : List Section) where
  abbrev pub with_place : SectionOffset → List Address → Result (List Address) Refusal
  with_place o xs = with_address rows xs (rva_of sections o)

  pub offsets_append : (xs : List Address) (os qs : List SectionOffset) → with_offsets rows sections xs (os ++ qs) ≡ then (with_offsets rows sections xs os) (λ ys. with_offsets rows sections ys qs)
  offsets_append xs [] qs = refl
  offsets_append xs (o ∷ os) qs =
      (elim (with_place o xs) as (λ r. then r (λ ys. with_offsets rows sections ys (os ++ qs)) ≡ then r (λ ys. then (with_offsets rows sections ys os) (λ zs. with_offsets rows sections zs qs))) [
        | Ok ys ↦ offsets_append ys os qs
        | Err e ↦ refl
      ]) ∙ sym (then_then (with_place o xs) (λ ys. with_offsets rows sections ys os) (λ zs. with_offsets rows sections zs qs))

  -- one place more, in three ways
  pub offsets_push : (xs : List Address) (os : List SectionOffset) (o : SectionOffset) → with_offsets rows sections xs (os ++ o ∷ []) ≡ then (with_offsets rows sections xs os) (with_place o)
  offsets_push xs os o = offsets_append xs os (o ∷ []) ∙ then-last (with_offsets rows sections xs os) (with_place o)

  pub offsets_item : (xs : List Address) (os : List SectionOffset) (k : ℕ) (o : SectionOffset) → slice_get os k ≡ Some o → with_offsets rows sections xs (take (k + 1) os) ≡ then (with_offsets rows sections xs (take k os)) (with_place o)
  offsets_item xs os k o e = ap (with_offsets rows sections xs) (item_take os k o e) ∙ offsets_push xs (take k os) o

  -- of a list that has the places
  pub offsets_at : {X : Type 0} (place : X → SectionOffset) (xs : List Address) (zs : List X) (k : ℕ) (d : X) → k < length zs → with_offsets rows sections xs (map place (take (k + 1) zs)) ≡ then (with_offsets rows sections xs (map place (take k zs))) (with_place (place (get_or zs k d)))
  offsets_at place xs zs k d l =
      ap (λ ys. with_offsets rows sections xs (map place ys)) (take_more zs k d l) ∙
      ap (with_offsets rows sections xs) (map-append place (take k zs) (get_or zs k d ∷ [])) ∙
      offsets_push xs (map place (take k zs)) (place (get_or zs k d))

  -- a refusal stays
  pub offsets_refused : {X : Type 0} (place : X → SectionOffset) (xs : List Address) (zs : List X) (k : ℕ) (x : Refusal) → with_offsets rows sections xs (map place (take k zs)) ≡ Err x → with_offsets rows sections xs (map place zs) ≡ Err x
  offsets_refused place xs zs k x e =
      ap (λ ys. with_offsets rows sections xs (map place ys)) (sym (take-append-drop k zs)) ∙
      ap (with_offsets rows sections xs) (map-append place (take k zs) (drop k zs)) ∙
      offsets_append xs (map place (take k zs)) (map place (drop k zs)) ∙
      ap (λ r. then r (λ ys. with_offsets rows sections ys (map place (drop k zs)))) e

  -- one place less to come
  pub offsets_rest : {X : Type 0} (place : X → SectionOffset) (xs : List Address) (zs : List X) (k : ℕ) (d : X) → k < length zs → with_offsets rows sections xs (map place (drop k zs)) ≡ then (with_place (place (get_or zs k d)) xs) (λ ys. with_offsets rows sections ys (map place (drop (k + 1) zs)))
  offsets_rest place xs zs k d l =
      ap (λ ys. with_offsets rows sections xs (map place ys)) cut
    where
      cut : drop k zs ≡ get_or zs k d ∷ drop (k + 1) zs
      cut = rw add-one (drop-cons zs k d l)

  -- what each place keeps, all of them keep
  pub offsets_keep : (P : List SectionOffset → List Address → Type 0) → ((os : List SectionOffset) (xs : List Address) (o : SectionOffset) (ys : List Address) → P os xs → with_place o xs ≡ Ok ys → P (os ++ o ∷ []) ys) → (os : List SectionOffset) (xs : List Address) (qs : List SectionOffset) (ys : List Address) → P os xs → with_offsets rows sections xs qs ≡ Ok ys → P (os ++ qs) ys
  offsets_keep P each os xs [] ys p h = let e : xs ≡ ys = cc in subst (P (os ++ [])) e (subst (λ qs. P qs xs) (sym (append-nil os)) p)
  offsets_keep P each os xs (q ∷ qs) ys p h =
      (elim (with_place q xs) as (λ r. with_place q xs ≡ r → then r (λ zs. with_offsets rows sections zs qs) ≡ Ok ys → P (os ++ q ∷ qs) ys) [
        | Ok zs ↦ λ e g. subst (λ ps. P ps ys) (append_assoc os (q ∷ []) qs) (offsets_keep P each (os ++ q ∷ []) zs qs ys (each os xs q zs p e) g)
        | Err x ↦ λ e g. absurd (cc)
      ]) refl h

  place_few : (r : Option ℕ) (xs ys : List Address) → length xs ≤ rows → with_address rows xs r ≡ Ok ys → length ys ≤ rows
  place_few None xs ys few h = let e : xs ≡ ys = cc in subst (λ zs. length zs ≤ rows) e few
  place_few (Some a) xs ys few h = (fitting rows (placed address_rank address_meets (record { rva = a }) xs) ys h).1

  pub offsets_few : (xs : List Address) (os : List SectionOffset) (ys : List Address) → length xs ≤ rows → with_offsets rows sections xs os ≡ Ok ys → length ys ≤ rows
  offsets_few xs os ys few h = offsets_keep (λ _ zs. length zs ≤ rows) (λ _ zs o vs few' e. place_few (rva_of sections o) zs vs few' e) [] xs os ys few h
