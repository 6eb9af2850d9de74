-- What an insertion into the used rows of a table leaves. Assumes nothing.
use Rattle.std.proofs.Common.{◌≡◌, ℕ, suc, ◌+◌, ◌-◌, ◌<◌, ◌≤◌, min, true, false, List, [], ◌∷◌, ◌++◌, length, get_or, take, drop, set, Some, None, Option, sym, refl, ap, ◌∙◌, subst, ⊎_elim, arith, drop-cons}
use Rattle.std.proofs.lemmas.List.{same_lists, take-append-drop, set_split, set-append_left, length-set, length-take-le, length-append, length-drop, drop_all, take-append-le, get_or_append_left, get_or-append_right, get_or-take, get_or-drop, take_all}
use Rattle.std.proofs.lemmas.List.Edits.{length-insert, get_or-insert_below, get_or-insert_at, get_or-insert_above}
use Rattle.std.proofs.lemmas.Bool.{cases_lt, cond-true, cond-false}
use Rattle.std.specs.List.{insert}
use Rattle.order.specs.declared.Meeting.{Meeting}
use Rattle.order.specs.declared.Meeting.TheVariants.{Stays, GivesWay, Both}
use Rattle.order.specs.Rank.{before, same, InOrder}
use Rattle.order.specs.Placed.{met, placed, changed, Place, Settled}
use Rattle.order.proofs.Rows.{placed_split, in_order-placed}

-- the rows from p up to n have moved up by one, and r stands at p
pub shifted : {X : Type 0} (old new : List X) (p n : ℕ) (r : X) → p ≤ n → n < length old → length new ≡ length old → ((k : ℕ) (d : X) → k < p → get_or new k d ≡ get_or old k d) → ((d : X) → get_or new p d ≡ r) → ((k : ℕ) (d : X) → p ≤ k → k < n → get_or new (k + 1) d ≡ get_or old k d) → ((k : ℕ) (d : X) → n < k → get_or new k d ≡ get_or old k d) → new ≡ insert (take n old) p r ++ drop (n + 1) old
shifted old new p n r pn nl len low at' mid high =
    let lt : length (take n old) ≡ n = length-take-le n old (omega arith) in
    let li : length (insert (take n old) p r) ≡ n + 1 = length-insert (take n old) p r (omega arith) ∙ ap (λ m. m + 1) lt in
    same_lists new _
    (sym (length-append (insert (take n old) p r) (drop (n + 1) old) ∙ (let ld = length-drop (n + 1) old in omega arith)))
    (λ k d kl.
    ⊎_elim
    (λ inl'.
    sym (get_or_append_left (insert (take n old) p r) (drop (n + 1) old) d k (omega arith) ∙
    ⊎_elim
    (λ below. get_or-insert_below (take n old) p r d k below (omega arith) ∙ get_or-take n old k d (omega arith) ∙ sym (low k d below))
    (λ rest. ⊎_elim
    (λ above.
    let j : ℕ = k - 1 in
    let e : k ≡ j + 1 = omega arith in
    subst (λ m. get_or (insert (take n old) p r) m d ≡ get_or new m d) (sym e)
    (get_or-insert_above (take n old) p r d j (omega arith) (omega arith) ∙ get_or-take n old j d (omega arith) ∙ sym (mid j d (omega arith) (omega arith))))
    (λ upto.
    let e : k ≡ p = omega arith in
    subst (λ m. get_or (insert (take n old) p r) m d ≡ get_or new m d) (sym e) (get_or-insert_at (take n old) p r d (omega arith) ∙ sym (at' d)))
    (cases_lt p k))
    (cases_lt k p)))
    (λ past.
    sym (get_or-append_right (insert (take n old) p r) (drop (n + 1) old) (n + 1) k d li past ∙ get_or-drop (n + 1) old (k - (n + 1)) d ∙ ap (λ m. get_or old m d) (omega arith) ∙ sym (high k d (omega arith))))
    (cases_lt k (n + 1)))

module _ {X : Type 0} (rank : X → List ℕ) (meets : X → X → Meeting) (r : X) (xs : List X) (p : ℕ) (h : Place rank xs (rank r) p) where
  split : placed rank meets r xs ≡ take p xs ++ placed rank meets r (drop p xs)
  split = placed_split rank meets p r xs h.within h.below

  opened : (d : X) → p < length xs → drop p xs ≡ get_or xs p d ∷ drop (suc p) xs
  opened d l = drop-cons xs p d l

  -- a row of r's rank stands at p
  pub placed-met : (x : X) → p < length xs → x ≡ get_or xs p x → same (rank x) (rank r) ≡ true → placed rank meets r xs ≡ take p xs ++ met (meets x r) x r (drop (suc p) xs)
  placed-met x l e s =
      let o : drop p xs ≡ x ∷ drop (suc p) xs = opened x l ∙ ap (λ y. y ∷ drop (suc p) xs) (sym e) in
      let b : before (rank x) (rank r) ≡ false = subst (λ y. before (rank y) (rank r) ≡ false) (sym e) (h.above p x (omega arith) l) in
      split ∙ ap (λ ys. take p xs ++ placed rank meets r ys) o ∙ ap (λ ys. take p xs ++ ys) (cond-false _ _ _ b ∙ cond-true _ _ _ s)

  pub placed-changed : (x : X) → p < length xs → x ≡ get_or xs p x → same (rank x) (rank r) ≡ true → placed rank meets r xs ≡ changed (meets x r) xs p r
  placed-changed x l e s =
      let o : drop p xs ≡ x ∷ drop (suc p) xs = opened x l ∙ ap (λ y. y ∷ drop (suc p) xs) (sym e) in
      placed-met x l e s ∙ (elim (meets x r) as (λ m. take p xs ++ met m x r (drop (suc p) xs) ≡ changed m xs p r) [
        | Stays ↦ ap (λ ys. take p xs ++ ys) (sym o) ∙ take-append-drop p xs
        | GivesWay ↦ sym (set_split xs p r l)
        | Both ↦ ap (λ ys. take p xs ++ r ∷ ys) (sym o)
      ])

  pub placed_new : (x : X) → p < length xs → x ≡ get_or xs p x → same (rank x) (rank r) ≡ false → placed rank meets r xs ≡ insert xs p r
  placed_new x l e s =
      let o : drop p xs ≡ x ∷ drop (suc p) xs = opened x l ∙ ap (λ y. y ∷ drop (suc p) xs) (sym e) in
      let b : before (rank x) (rank r) ≡ false = subst (λ y. before (rank y) (rank r) ≡ false) (sym e) (h.above p x (omega arith) l) in
      split ∙ ap (λ ys. take p xs ++ placed rank meets r ys) o ∙ ap (λ ys. take p xs ++ ys) (cond-false _ _ _ b ∙ cond-false _ _ _ s) ∙ ap (λ ys. take p xs ++ r ∷ ys) (sym o)

  pub placed-last : length xs ≤ p → placed rank meets r xs ≡ insert xs p r
  placed-last l =
      let o : drop p xs ≡ [] = drop_all p xs l in
      split ∙ ap (λ ys. take p xs ++ placed rank meets r ys) o ∙ ap (λ ys. take p xs ++ r ∷ ys) (sym o)

-- the same of a table of which the first n rows, xs, are used
module _ {X : Type 0} (rank : X → List ℕ) (meets : X → X → Meeting) (rows : List X) (n : ℕ) (r : X) (p : ℕ) (few : n ≤ length rows) (xs : List X) (used : xs ≡ take n rows) where
  long : length xs ≡ n
  long = ap length used ∙ length-take-le n rows few

  back : xs ++ drop n rows ≡ rows
  back = ap (λ ys. ys ++ drop n rows) used ∙ take-append-drop n rows

  same_used : placed rank meets r xs ≡ placed rank meets r (take n rows)
  same_used = ap (placed rank meets r) used

  pub settled_stays : placed rank meets r xs ≡ xs → Settled rank meets rows n r (Some n) rows
  settled_stays e = (sym (ap length (sym same_used ∙ e) ∙ long), few, sym (ap (λ ys. ys ++ drop n rows) (sym same_used ∙ e) ∙ back))

  pub settled_gives_way : p < length xs → placed rank meets r xs ≡ set xs p r → Settled rank meets rows n r (Some n) (set rows p r)
  settled_gives_way l e = (
    sym (ap length (sym same_used ∙ e) ∙ length-set xs p r ∙ long),
    few,
    ap (λ ys. set ys p r) (sym back) ∙ set-append_left xs (drop n rows) p r l ∙ ap (λ ys. ys ++ drop n rows) (sym e ∙ same_used),
  )

  pub settled_new : p ≤ length xs → n < length rows → placed rank meets r xs ≡ insert xs p r → (rows' : List X) → rows' ≡ insert (take n rows) p r ++ drop (n + 1) rows → Settled rank meets rows n r (Some (n + 1)) rows'
  settled_new l m e rows' f = (
    sym (ap length (sym same_used ∙ e) ∙ length-insert xs p r l ∙ ap (λ k. k + 1) long),
    omega arith,
    f ∙ ap (λ ys. insert ys p r ++ drop (n + 1) rows) (sym used) ∙ ap (λ ys. ys ++ drop (n + 1) rows) (sym e ∙ same_used),
  )

  pub settled_full : p ≤ length xs → length rows ≤ n → placed rank meets r xs ≡ insert xs p r → Settled rank meets rows n r None rows
  settled_full l m e =
      let more : length (placed rank meets r (take n rows)) ≡ n + 1 = ap length (sym same_used ∙ e) ∙ length-insert xs p r l ∙ ap (λ k. k + 1) long in
      (omega arith, refl)

pub take_min : {X : Type 0} (rows : List X) (m n : ℕ) → m ≡ min n (length rows) → take m rows ≡ take n rows
take_min rows m n e =
    ⊎_elim
    (λ l. ap (λ k. take k rows) (omega arith))
    (λ l. take_all m rows (omega arith) ∙ sym (take_all n rows l))
    (cases_lt n (length rows))

-- only the used rows count
pub settled_used : {X : Type 0} (rank : X → List ℕ) (meets : X → X → Meeting) (rows : List X) (m n : ℕ) (r : X) (o : Option ℕ) (rows' : List X) → take m rows ≡ take n rows → Settled rank meets rows m r o rows' → Settled rank meets rows n r o rows'
settled_used rank meets rows m n r None rows' e h = (subst (λ xs. length rows < length (placed rank meets r xs)) e h.0, h.1)
settled_used rank meets rows m n r (Some k) rows' e h = (h.0 ∙ ap (λ xs. length (placed rank meets r xs)) e, h.1, h.2 ∙ ap (λ xs. placed rank meets r xs ++ drop k rows) e)

-- what an insertion leaves in order
pub settled_in_order : {X : Type 0} (rank : X → List ℕ) (meets : X → X → Meeting) (rows : List X) (count n : ℕ) (r : X) (rows' : List X) → InOrder rank (take count rows) → Settled rank meets rows count r (Some n) rows' → InOrder rank (take n rows')
settled_in_order rank meets rows count n r rows' ord h =
    let cut : take n rows' ≡ placed rank meets r (take count rows) = ap (take n) h.2 ∙ take-append-le n (placed rank meets r (take count rows)) (drop n rows) (omega (arith, h.0)) ∙ take_all n (placed rank meets r (take count rows)) (omega (arith, h.0)) in
    subst (InOrder rank) (sym cut) (in_order-placed rank meets r (take count rows) ord)
