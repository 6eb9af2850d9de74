-- One public symbol more, and starts that fit or do not. Assumes nothing.
use Rattle.std.proofs.Common.{◌≡◌, ℕ, ◌+◌, Bool, true, false, cond, ltb, List, [], ◌∷◌, ◌++◌, map, length, take, drop, Some, None, filter, Option, sym, refl, ap, ◌∙◌, append-nil, arith, take-append-drop}
use mathlib.Core.List.{map-append}
use Rattle.std.specs.List.{slice_get}
use Rattle.std.proofs.lemmas.List.Elements.{filter-append}
use Rattle.std.proofs.lemmas.Bool.{cond-true, cond-false, le-ltb, lt-ltb, ltb-true}
use Rattle.base.specs.declared.image.Section.{Section}
use Rattle.base.specs.declared.image.PublicSymbol.{PublicSymbol}
use Rattle.base.specs.declared.context.KnownStart.{KnownStart}
use Rattle.base.specs.declared.refusal.Refusal.{Refusal}
use Rattle.base.specs.Rows.{named_start}
use Rattle.building.specs.Starts.{or_else, executable, symbol_starts, offset_count}
use Rattle.building.specs.Filling.{Holds}
use Rattle.building.proofs.Starts.{count_grows}
use Rattle.building.proofs.Items.{kept_more}

module _ (sections : List Section) where
  pub symbols-append : (xs ys : List PublicSymbol) → symbol_starts sections (xs ++ ys) ≡ symbol_starts sections xs ++ symbol_starts sections ys
  symbols-append xs ys = ap (map named_start) (filter-append (λ p. executable sections p.offset.section) xs ys) ∙ map-append named_start (filter (λ p. executable sections p.offset.section) xs) (filter (λ p. executable sections p.offset.section) ys)

  module _ (symbols : List PublicSymbol) (k : ℕ) (p : PublicSymbol) (i : slice_get symbols k ≡ Some p) where
    symbol_more : symbol_starts sections (take (k + 1) symbols) ≡ symbol_starts sections (take k symbols) ++ map named_start (cond (executable sections p.offset.section) (p ∷ []) [])
    symbol_more = ap (map named_start) (kept_more (λ q. executable sections q.offset.section) symbols k p i) ∙ map-append named_start (filter (λ q. executable sections q.offset.section) (take k symbols)) (cond (executable sections p.offset.section) (p ∷ []) [])

    pub symbol_kept : executable sections p.offset.section ≡ true → symbol_starts sections (take k symbols) ++ named_start p ∷ [] ≡ symbol_starts sections (take (k + 1) symbols)
    symbol_kept e = sym (symbol_more ∙ ap (λ b. symbol_starts sections (take k symbols) ++ map named_start (cond b (p ∷ []) [])) e)

    pub symbol_skipped : executable sections p.offset.section ≡ false → symbol_starts sections (take k symbols) ≡ symbol_starts sections (take (k + 1) symbols)
    symbol_skipped e = sym (symbol_more ∙ ap (λ b. symbol_starts sections (take k symbols) ++ map named_start (cond b (p ∷ []) [])) e ∙ append-nil _)

    -- the rest of the symbols
    pub symbol_rest : executable sections p.offset.section ≡ true → (symbol_starts sections (take k symbols) ++ named_start p ∷ []) ++ symbol_starts sections (drop (k + 1) symbols) ≡ symbol_starts sections symbols
    symbol_rest e =
        ap (λ ss. ss ++ symbol_starts sections (drop (k + 1) symbols)) (symbol_kept e) ∙ sym (symbols-append (take (k + 1) symbols) (drop (k + 1) symbols)) ∙ ap (symbol_starts sections) (take-append-drop (k + 1) symbols)

-- starts that the table holds fit into it
pub holds-room : (cs old rows : List KnownStart) (count : ℕ) (e : Refusal) → Holds cs old rows count → None ≡ cond (ltb (length old) (offset_count cs)) (Some e) None
holds-room cs old rows count e h =
    let a = h.counted in
    let f = h.untouched.few in
    let l = h.untouched.long in
    sym (cond-false _ _ _ (le-ltb (length old) (offset_count cs) (omega arith)))

taken : (b : Bool) (e x : Refusal) → Some e ≡ cond b (Some x) None → b ≡ true
taken true e x h = refl
taken false e x h = let z : ◌≡◌ {A = ℕ} 0 1 = cc in absurd (omega arith)

-- what does not fit does not fit with more
pub full_with-more : (cs ds : List KnownStart) (n : ℕ) (e x : Refusal) → Some e ≡ cond (ltb n (offset_count cs)) (Some x) None → Some e ≡ cond (ltb n (offset_count (cs ++ ds))) (Some x) None
full_with-more cs ds n e x h =
    let b : ltb n (offset_count cs) ≡ true = taken (ltb n (offset_count cs)) e x h in
    let l = ltb-true n (offset_count cs) b in
    let g = count_grows cs ds in
    h ∙ cond-true _ _ _ b ∙ sym (cond-true _ _ _ (lt-ltb n (offset_count (cs ++ ds)) (omega arith)))

-- a symbol that does not fit
pub symbol_full : (sections : List Section) (symbols : List PublicSymbol) (k : ℕ) (p : PublicSymbol) → slice_get symbols k ≡ Some p → executable sections p.offset.section ≡ true → (n : ℕ) (e x : Refusal) (rest : Option Refusal) → Some e ≡ cond (ltb n (offset_count (symbol_starts sections (take k symbols) ++ named_start p ∷ []))) (Some x) None → Some e ≡ or_else (cond (ltb n (offset_count (symbol_starts sections symbols))) (Some x) None) rest
symbol_full sections symbols k p i runs n e x rest h =
    let more = full_with-more (symbol_starts sections (take k symbols) ++ named_start p ∷ []) (symbol_starts sections (drop (k + 1) symbols)) n e x h in
    ap (λ o. or_else o rest) (more ∙ ap (λ ss. cond (ltb n (offset_count ss)) (Some x) None) (symbol_rest sections symbols k p i runs))
