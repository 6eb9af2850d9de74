-- Known starts, one start after the other. Assumes nothing.
use Rattle.std.proofs.Common.{◌≡◌, ℕ, ◌+◌, ◌≤◌, Bool, true, false, cond, not, ◌&&◌, List, [], ◌∷◌, ◌++◌, length, is_some, Some, None, Option, sym, refl, ap, ◌∙◌, subst, ⊎_elim, append_assoc, append-nil, arith}
use Rattle.std.proofs.lemmas.Bool.{cases_Bool, cond-true, cond-false, and_parts, and_from}
use Rattle.order.specs.declared.Meeting.TheVariants.{Stays, GivesWay, Both}
use Rattle.order.specs.Rank.{before, same, first, at}
use Rattle.order.specs.Placed.{placed}
use Rattle.order.proofs.Ranks.{same_refl, same_eq}
use Rattle.order.proofs.Rows.{winner, pairwise-none, rises-placed, at-placed_away, at-placed_here, length-placed, same_flip}
use Rattle.order.proofs.Unique.{unique_rising}
use Rattle.base.specs.Rows.{offset_rank, start_rank, start_meets, named}
use Rattle.base.specs.declared.image.SectionOffset.{SectionOffset}
use Rattle.base.specs.declared.context.KnownStart.{KnownStart}
use Rattle.building.specs.Starts.{or_else, start_at, Known, offset_count}

first_more : {X : Type 0} (t : X → Bool) (xs : List X) (x : X) → first t (xs ++ x ∷ []) ≡ or_else (first t xs) (cond (t x) (Some x) None)
first_more t [] x = refl
first_more t (y ∷ ys) x =
    elim (t y) as (λ b. cond b (Some y) (first t (ys ++ x ∷ [])) ≡ or_else (cond b (Some y) (first t ys)) (cond (t x) (Some x) None)) [
      | true ↦ refl
      | false ↦ first_more t ys x
    ]

some_is : {Y : Type 0} (a b : Y) → Some a ≡ Some b → a ≡ b
some_is a b p = cc

none-some : {Y : Type 0} (a : Y) → None ≡ Some a → ⊥
none-some a p = let z : ◌≡◌ {A = ℕ} 0 1 = cc in omega arith

and_off : (a b : Bool) → b ≡ false → (a && b) ≡ false
and_off true b h = h
and_off false b h = refl

and_false : (a : Bool) → (a && false) ≡ false
and_false true = refl
and_false false = refl

or_both : (b : Bool) (c : KnownStart) → or_else (or_else None (cond b (Some c) None)) (Some c) ≡ Some c
or_both true c = refl
or_both false c = refl

or_three : (n : Bool) (c s : KnownStart) → or_else (cond (n && true) (Some c) None) (Some s) ≡ Some (cond (not false && n) c s)
or_three true c s = refl
or_three false c s = refl

first_passes : {X : Type 0} (t : X → Bool) (xs : List X) (x : X) → first t xs ≡ Some x → t x ≡ true
first_passes t [] x e = absurd (none-some x e)
first_passes t (y ∷ ys) x e =
    ⊎_elim
    (λ b. let s : y ≡ x = some_is y x (sym (cond-true _ _ _ b) ∙ e) in subst (λ v. t v ≡ true) s b)
    (λ b. first_passes t ys x (sym (cond-false _ _ _ b) ∙ e))
    (cases_Bool (t y))

-- where no row passes both tests, the first that passes the second fails the other
first_weaker : {X : Type 0} (n t : X → Bool) (xs : List X) (x : X) → first (λ s. n s && t s) xs ≡ None → first t xs ≡ Some x → n x ≡ false
first_weaker n t [] x e f = absurd (none-some x f)
first_weaker n t (y ∷ ys) x e f =
    ⊎_elim
    (λ b. let s : y ≡ x = some_is y x (sym (cond-true _ _ _ b) ∙ f) in
    subst (λ v. n v ≡ false) s
    (⊎_elim (λ m. absurd (none-some y (sym e ∙ cond-true _ _ _ (and_from _ _ m b)))) (λ m. m) (cases_Bool (n y))))
    (λ b. first_weaker n t ys x (sym (cond-false _ _ _ (and_off (n y) (t y) b)) ∙ e) (sym (cond-false _ _ _ b) ∙ f))
    (cases_Bool (t y))

first_stronger : {X : Type 0} (n t : X → Bool) (xs : List X) (x : X) → first (λ s. n s && t s) xs ≡ Some x → is_some (first t xs) ≡ true
first_stronger n t [] x e = absurd (none-some x e)
first_stronger n t (y ∷ ys) x e =
    ⊎_elim
    (λ b. ap is_some (cond-true _ _ _ b))
    (λ b. ap is_some (cond-false _ _ _ b) ∙ first_stronger n t ys x (sym (cond-false _ _ _ (and_off (n y) (t y) b)) ∙ e))
    (cases_Bool (t y))

abbrev Here : SectionOffset → KnownStart → Bool
Here o s = same (start_rank s) (offset_rank o)

abbrev won : Option KnownStart → KnownStart → KnownStart
won o c = winner start_rank start_meets o c

-- which of two starts at one offset stays
won_some : (s c : KnownStart) → won (Some s) c ≡ cond (not (named s) && named c) c s
won_some s c = elim (not (named s) && named c) as (λ b. (elim (cond b GivesWay Stays) [ Stays ↦ s | GivesWay ↦ c | Both ↦ c ]) ≡ cond b c s) [ true ↦ refl | false ↦ refl ]

joined_at : (f1 f2 : Option KnownStart) (c : KnownStart) (sm : Bool) → ((s : KnownStart) → f1 ≡ Some s → named s ≡ true) → ((s : KnownStart) → f1 ≡ None → f2 ≡ Some s → named s ≡ false) → or_else (or_else f1 (cond (named c && sm) (Some c) None)) (or_else f2 (cond sm (Some c) None)) ≡ cond sm (Some (won (or_else f1 f2) c)) (or_else f1 f2)
joined_at (Some s) f2 c true h k =
    sym (ap Some (won_some s c ∙ ap (λ b. cond (not b && named c) c s) (h s refl)))
joined_at (Some s) f2 c false h k = refl
joined_at None None c true h k = or_both (named c && true) c
joined_at None None c false h k = ap (λ b. or_else (cond b (Some c) None) None) (and_false (named c))
joined_at None (Some s) c true h k =
    or_three (named c) c s ∙ sym (ap Some (won_some s c ∙ ap (λ b. cond (not b && named c) c s) (k s refl refl)))
joined_at None (Some s) c false h k = ap (λ b. or_else (cond b (Some c) None) (Some s)) (and_false (named c))

-- one start more in the list: it changes what stands at its own offset only
pub start_at-more : (cs : List KnownStart) (c : KnownStart) (o : SectionOffset) → start_at (cs ++ c ∷ []) o ≡ cond (Here o c) (Some (won (start_at cs o) c)) (start_at cs o)
start_at-more cs c o =
    let a = first_more (λ s. named s && Here o s) cs c in
    let b = first_more (Here o) cs c in
    ap (λ x. or_else x (at start_rank (offset_rank o) (cs ++ c ∷ []))) a ∙ ap (λ y. or_else (or_else (first (λ s. named s && Here o s) cs) (cond (named c && Here o c) (Some c) None)) y) b ∙
    joined_at (first (λ s. named s && Here o s) cs) (at start_rank (offset_rank o) cs) c (Here o c)
    (λ s e. (and_parts (named s) (Here o s) (first_passes (λ v. named v && Here o v) cs s e)).0)
    (λ s e f. first_weaker named (Here o) cs s e f)

never_both : (x r : KnownStart) → start_meets x r ≡ Both → ⊥
never_both x r e =
    let h : (b : Bool) → cond b GivesWay Stays ≡ Both → ⊥ = λ b. elim b as (λ v. cond v GivesWay Stays ≡ Both → ⊥) [ true ↦ λ p. (let z : ◌≡◌ {A = ℕ} 0 1 = cc in omega arith) | false ↦ λ p. (let z : ◌≡◌ {A = ℕ} 0 1 = cc in omega arith) ] in
    h (not (named x) && named r) e

pub known-none : Known [] []
known-none = record { rises = pairwise-none (λ x y. before (start_rank x) (start_rank y)); gives = λ o. refl }

pub known_more : (cs xs : List KnownStart) (c : KnownStart) → Known cs xs → Known (cs ++ c ∷ []) (placed start_rank start_meets c xs)
known_more cs xs c h = record {
  rises = rises-placed start_rank start_meets never_both c xs h.rises;
  gives = λ o.
      ⊎_elim
      (λ s.
      let e : start_rank c ≡ offset_rank o = same_eq (start_rank c) (offset_rank o) s in
      ap (λ q. at start_rank q (placed start_rank start_meets c xs)) (sym e) ∙ at-placed_here start_rank start_meets c xs h.rises ∙ ap (λ q. Some (won (at start_rank q xs) c)) e ∙ ap (λ w. Some (won w c)) (h.gives o) ∙ sym (start_at-more cs c o ∙ cond-true _ _ _ s))
      (λ s. at-placed_away start_rank start_meets (offset_rank o) c xs s ∙ h.gives o ∙ sym (start_at-more cs c o ∙ cond-false _ _ _ s))
      (cases_Bool (Here o c));
}

-- no other list of starts is known
pub known_one : (cs xs ys : List KnownStart) → Known cs xs → Known cs ys → xs ≡ ys
known_one cs xs ys h k = unique_rising start_rank xs ys h.rises k.rises (λ z. h.gives z.offset ∙ sym (k.gives z.offset))

-- an offset has a start in the list just if it has a first one
some_start : (cs : List KnownStart) (o : SectionOffset) → is_some (start_at cs o) ≡ is_some (at start_rank (offset_rank o) cs)
some_start cs o =
    let h : (f : Option KnownStart) → first (λ s. named s && Here o s) cs ≡ f → is_some (or_else f (at start_rank (offset_rank o) cs)) ≡ is_some (at start_rank (offset_rank o) cs) =
    λ f. elim f as (λ v. first (λ s. named s && Here o s) cs ≡ v → is_some (or_else v (at start_rank (offset_rank o) cs)) ≡ is_some (at start_rank (offset_rank o) cs)) [
      | None ↦ λ e. refl
      | Some x ↦ λ e. sym (first_stronger named (Here o) cs x e)
    ] in
    h _ refl

abbrev new : KnownStart → List KnownStart → ℕ
new c cs = cond (is_some (at start_rank (start_rank c) cs)) 0 1

or_none : (f : Option KnownStart) → or_else f None ≡ f
or_none None = refl
or_none (Some x) = refl

some_zero : (f : Option KnownStart) (c : KnownStart) → ◌≡◌ {A = ℕ} (cond (is_some (or_else f (Some c))) 0 1) 0
some_zero None c = refl
some_zero (Some x) c = refl

new_more : (x c : KnownStart) (cs : List KnownStart) → same (start_rank c) (start_rank x) ≡ false → new x (cs ++ c ∷ []) ≡ new x cs
new_more x c cs n =
    let e = first_more (λ s. same (start_rank s) (start_rank x)) cs c in
    ap (λ o. cond (is_some o) 0 1) (e ∙ ap (or_else (at start_rank (start_rank x) cs)) (cond-false _ _ _ n) ∙ or_none (at start_rank (start_rank x) cs))

new_last : (x c : KnownStart) (cs : List KnownStart) → same (start_rank c) (start_rank x) ≡ true → new x (cs ++ c ∷ []) ≡ 0
new_last x c cs n =
    let e = first_more (λ s. same (start_rank s) (start_rank x)) cs c in
    ap (λ o. cond (is_some o) 0 1) (e ∙ ap (or_else (at start_rank (start_rank x) cs)) (cond-true _ _ _ n)) ∙ some_zero (at start_rank (start_rank x) cs) c

-- one start more has a new offset, or it has not
pub count-more : (cs : List KnownStart) (c : KnownStart) → offset_count (cs ++ c ∷ []) ≡ new c cs + offset_count cs
count-more [] c = refl
count-more (x ∷ cs) c =
    let ih = count-more cs c in
    ⊎_elim
    (λ s.
    let r : start_rank x ≡ start_rank c = same_eq (start_rank x) (start_rank c) s in
    let a : ◌≡◌ {A = ℕ} (new x (cs ++ c ∷ [])) 0 = new_last x c cs (subst (λ q. same (start_rank c) q ≡ true) (sym r) (same_refl (start_rank c))) in
    let b : ◌≡◌ {A = ℕ} (new c (x ∷ cs)) 0 = ap (λ o. cond (is_some o) 0 1) (cond-true _ _ _ s) in
    let e : ◌≡◌ {A = ℕ} (new x cs) (new c cs) = ap (λ q. cond (is_some (at start_rank q cs)) 0 1) r in
    omega arith)
    (λ s.
    let a : ◌≡◌ {A = ℕ} (new x (cs ++ c ∷ [])) (new x cs) = new_more x c cs (same_flip (start_rank x) (start_rank c) s) in
    let b : ◌≡◌ {A = ℕ} (new c (x ∷ cs)) (new c cs) = ap (λ o. cond (is_some o) 0 1) (cond-false _ _ _ s) in
    omega arith)
    (cases_Bool (same (start_rank x) (start_rank c)))

pub count_grows : (cs ds : List KnownStart) → offset_count cs ≤ offset_count (cs ++ ds)
count_grows cs [] = let e : offset_count (cs ++ []) ≡ offset_count cs = ap offset_count (append-nil cs) in omega arith
count_grows cs (d ∷ ds) =
    let e : offset_count ((cs ++ d ∷ []) ++ ds) ≡ offset_count (cs ++ d ∷ ds) = ap offset_count (append_assoc cs (d ∷ []) ds) in
    let f = count-more cs d in
    let g = count_grows (cs ++ d ∷ []) ds in
    omega arith

-- the known starts are as many as there are offsets
pub placed-count : (cs xs : List KnownStart) (c : KnownStart) → Known cs xs → length xs ≡ offset_count cs → length (placed start_rank start_meets c xs) ≡ offset_count (cs ++ c ∷ [])
placed-count cs xs c h e =
    let l = length-placed start_rank start_meets never_both c xs h.rises in
    let k : is_some (at start_rank (start_rank c) xs) ≡ is_some (at start_rank (start_rank c) cs) = ap is_some (h.gives c.offset) ∙ some_start cs c.offset in
    let m : ◌≡◌ {A = ℕ} (cond (is_some (at start_rank (start_rank c) xs)) 0 1) (new c cs) = ap (λ b. cond b 0 1) k in
    let n = count-more cs c in
    omega arith
