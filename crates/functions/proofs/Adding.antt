-- One address more, and one after another. Assumes nothing.
use Rattle.std.proofs.Common.{◌≡◌, ℕ, suc, ◌≤◌, ◌+◌, ◌-◌, Bool, true, false, cond, List, [], ◌∷◌, ◌++◌, length, take, drop, Ok, Err, Result, sym, refl, ap, ◌∙◌, arith}
use Rattle.std.specs.Prelude.{⊤, Some, None, if◌then◌else◌}
use Rattle.std.proofs.lemmas.List.{drop-drop, length-take-le}
use Rattle.order.specs.Rank.{before, same}
use Rattle.order.specs.Placed.{placed, Settled}
use Rattle.order.specs.declared.Row.{Ghosts}
use Rattle.base.specs.declared.image.Section.{Section}
use Rattle.base.specs.declared.image.SectionOffset.{SectionOffset}
use Rattle.base.specs.declared.refusal.Refusal.{Refusal}
use Rattle.table.specs.declared.ordered.OrderedTable.{OrderedTable}
use Rattle.inlining.specs.Steps.{then as and_then}
use Rattle.addresses.specs.declared.Address.{Address}
use Rattle.addresses.specs.Rows.{address_rank, address_meets}
use Rattle.listing.specs.Listing.{with_address, with_offsets, rva_of}
use Rattle.functions.specs.Adding.{Adds, used}

-- no address goes
pub grown : (a : Address) (xs : List Address) → length xs ≤ length (placed address_rank address_meets a xs)
grown a [] = omega arith
grown a (x ∷ xs) =
    let ih = grown a xs in
    elim (before (address_rank x) (address_rank a)) as (λ b. suc (length xs) ≤ length (cond b (x ∷ placed address_rank address_meets a xs) (cond (same (address_rank x) (address_rank a)) (x ∷ xs) (a ∷ x ∷ xs)))) [
      | true ↦ omega arith
      | false ↦ elim (same (address_rank x) (address_rank a)) as (λ b. suc (length xs) ≤ length (cond b (x ∷ xs) (a ∷ x ∷ xs))) [
        | true ↦ omega arith
        | false ↦ omega arith
      ]
    ]

-- nor does an insertion make a table shorter
pub settled_grows : (rows after : List Address) (count n : ℕ) (a : Address) (ok : Bool) → count ≤ length rows → Settled address_rank address_meets rows count a (if ok then Some n else None) after → (ok ≡ false → n ≡ count) → count ≤ n
settled_grows rows after count n a true few h full =
    let g = grown a (take count rows) in
    let l = length-take-le count rows few in
    let e = h.0 in omega arith
settled_grows rows after count n a false few h full = let e = full refl in omega arith

-- the addresses of more places
with_append : (rows : ℕ) (sections : List Section) (xs : List Address) (os ps : List SectionOffset) → with_offsets rows sections xs (os ++ ps) ≡ and_then (with_offsets rows sections xs os) (λ ys. with_offsets rows sections ys ps)
with_append rows sections xs [] ps = refl
with_append rows sections xs (o ∷ os) ps = go (with_address rows xs (rva_of sections o)) (λ ys. with_append rows sections ys os ps)
  where
    go : (r : Result (List Address) Refusal) → ((ys : List Address) → with_offsets rows sections ys (os ++ ps) ≡ and_then (with_offsets rows sections ys os) (λ zs. with_offsets rows sections zs ps)) → and_then r (λ ys. with_offsets rows sections ys (os ++ ps)) ≡ and_then (and_then r (λ ys. with_offsets rows sections ys os)) (λ ys. with_offsets rows sections ys ps)
    go (Ok ys) ih = ih ys
    go (Err e) ih = refl

-- rows that are the same from one number on, are from a higher one on
pub further : (m n : ℕ) → m ≤ n → (us vs : List Address) → drop m us ≡ drop m vs → drop n us ≡ drop n vs
further m n le us vs e =
    let s : m + (n - m) ≡ n = omega arith in
    ap (λ k. drop k us) (sym s) ∙ sym (drop-drop (n - m) m us) ∙ ap (drop (n - m)) e ∙ drop-drop (n - m) m vs ∙ ap (λ k. drop k vs) s

-- some places, and then more
pub adds_more : {g : Ghosts Address} {U : Type 0} (sections : List Section) (os ps : List SectionOffset) (a b c : OrderedTable Address g) (r : Result U Refusal) → Adds {U = ⊤} sections os a b (Ok tt) → length b.rows.now ≡ length a.rows.now → b.count ≤ c.count → Adds sections ps b c r → Adds sections (os ++ ps) a c r
adds_more sections os ps a b c r f l up h = record {
  answer =
      h.answer ∙
      ap (λ n. with_offsets n sections (used b) ps) l ∙
      ap (λ w. and_then w (λ ys. with_offsets (length a.rows.now) sections ys ps)) f.answer ∙
      sym (with_append (length a.rows.now) sections (used a) os ps);
  rest = h.rest ∙ further b.count c.count up b.rows.now a.rows.now f.rest;
}

-- after a refusal nothing more comes
pub adds_refused : {g : Ghosts Address} {U : Type 0} (sections : List Section) (os ps : List SectionOffset) (a c : OrderedTable Address g) (e : Refusal) → Adds {U = U} sections os a c (Err e) → Adds {U = U} sections (os ++ ps) a c (Err e)
adds_refused sections os ps a c e f = record {
  answer = ap (λ w. and_then w (λ ys. with_offsets (length a.rows.now) sections ys ps)) f.answer ∙ sym (with_append (length a.rows.now) sections (used a) os ps);
  rest = f.rest;
}
