-- A list in order is known by what stands at each rank. Assumes nothing.
use Rattle.std.proofs.Common.{◌≡◌, ℕ, suc, true, false, cond, not, List, [], ◌∷◌, Some, None, sym, refl, ap, ◌∙◌, subst, ⊎_elim, arith}
use Rattle.std.proofs.lemmas.Option.{none-some, same_Some}
use Rattle.std.proofs.lemmas.Bool.{cases_Bool, cond-true, cond-false, not-true}
use Rattle.std.proofs.ByRecursion.{All-weaker}
use Rattle.std.specs.List.{AllByRecursion}
use Rattle.order.specs.declared.Meeting.TheVariants.{Stays}
use Rattle.order.specs.Rank.{before, same, InOrder, Rises, at, tally}
use Rattle.order.proofs.Ranks.{before_trans, same_refl, same_eq, before_not_same, before-upto, cases_rank}
use Rattle.order.proofs.Rows.{pairwise_cons, at_none, same_flip}

module _ {X : Type 0} (rank : X → List ℕ) where
  abbrev After : X → List X → Type 0
  After r xs = AllByRecursion (λ y. before (rank r) (rank y) ≡ true) xs

  here : (x : X) (xs : List X) → at rank (rank x) (x ∷ xs) ≡ Some x
  here x xs = cond-true _ _ _ (same_refl (rank x))

  after_all : (r x : X) (xs : List X) → before (rank r) (rank x) ≡ true → After x xs → After r xs
  after_all r x xs b a =
      All-weaker (λ y. before (rank x) (rank y) ≡ true) (λ y. before (rank r) (rank y) ≡ true) (λ y u. before_trans (rank r) (rank x) (rank y) b u) xs a

  none-at : (r : X) (xs : List X) → After r xs → at rank (rank r) xs ≡ None
  none-at r xs a = at_none rank (λ _ _. Stays) r xs a

  -- two rising lists with the same row at each rank are the same list
  pub unique_rising : (xs ys : List X) → Rises rank xs → Rises rank ys → ((z : X) → at rank (rank z) xs ≡ at rank (rank z) ys) → xs ≡ ys
  unique_rising [] [] h k e = refl
  unique_rising [] (y ∷ ys) h k e = absurd (none-some y (e y ∙ here y ys))
  unique_rising (x ∷ xs) [] h k e = absurd (none-some x (sym (e x) ∙ here x xs))
  unique_rising (x ∷ xs) (y ∷ ys) h k e =
      let p = pairwise_cons (λ a b. before (rank a) (rank b)) x xs h in
      let q = pairwise_cons (λ a b. before (rank a) (rank b)) y ys k in
      ⊎_elim
      (λ b. absurd (none-some x (sym (e x ∙ none-at x (y ∷ ys) (b, after_all x y ys b q.0)) ∙ here x xs)))
      (⊎_elim
      (λ s.
      let level = same_eq (rank x) (rank y) s in
      let first : x ≡ y = same_Some x y (sym (here x xs) ∙ e x ∙ subst (λ r. at rank r (y ∷ ys) ≡ Some y) (sym level) (here y ys)) in
      let rest : xs ≡ ys = unique_rising xs ys p.1 q.1 (λ z.
      ⊎_elim
      (λ t.
      let lx = same_eq (rank x) (rank z) t in
      let ly : rank y ≡ rank z = sym level ∙ lx in
      (ap (λ r. at rank r xs) (sym lx) ∙ none-at x xs p.0) ∙ sym (ap (λ r. at rank r ys) (sym ly) ∙ none-at y ys q.0))
      (λ t.
      let u : same (rank y) (rank z) ≡ false = rw (sym level) t in
      sym (cond-false _ _ _ t) ∙ e z ∙ cond-false _ _ _ u)
      (cases_Bool (same (rank x) (rank z)))) in
      cc)
      (λ b. absurd (none-some y (sym (none-at y (x ∷ xs) (b, after_all y x xs b p.0)) ∙ e y ∙ here y ys))))
      (cases_rank (rank x) (rank y))

  tally-none : (r : X) (xs : List X) → After r xs → tally rank (rank r) xs ≡ 0
  tally-none r [] a = refl
  tally-none r (y ∷ ys) a =
      let n : same (rank y) (rank r) ≡ false = same_flip (rank r) (rank y) (before_not_same (rank r) (rank y) a.0) in
      let c : ◌≡◌ {A = ℕ} (cond (same (rank y) (rank r)) 1 0) 0 = cond-false _ _ _ n in
      let ih = tally-none r ys a.1 in
      omega arith

  tally_here : (x : X) (xs : List X) → tally rank (rank x) (x ∷ xs) ≡ suc (tally rank (rank x) xs)
  tally_here x xs = let c : ◌≡◌ {A = ℕ} (cond (same (rank x) (rank x)) 1 0) 1 = cond-true _ _ _ (same_refl (rank x)) in omega arith

  upto-after : (r x : X) (xs : List X) → before (rank r) (rank x) ≡ true → AllByRecursion (λ y. not (before (rank y) (rank x)) ≡ true) xs → After r xs
  upto-after r x xs b a =
      All-weaker (λ y. not (before (rank y) (rank x)) ≡ true) (λ y. before (rank r) (rank y) ≡ true) (λ y u. before-upto (rank r) (rank x) (rank y) b (not-true _ u)) xs a

  -- two lists in order with as many rows at each rank are the same list
  pub unique_in_order : ((x y : X) → rank x ≡ rank y → x ≡ y) → (xs ys : List X) → InOrder rank xs → InOrder rank ys → ((z : X) → tally rank (rank z) xs ≡ tally rank (rank z) ys) → xs ≡ ys
  unique_in_order one [] [] h k e = refl
  unique_in_order one [] (y ∷ ys) h k e = let t = tally_here y ys in let u = e y in absurd (omega arith)
  unique_in_order one (x ∷ xs) [] h k e = let t = tally_here x xs in let u = e x in absurd (omega arith)
  unique_in_order one (x ∷ xs) (y ∷ ys) h k e =
      let p = pairwise_cons (λ a b. not (before (rank b) (rank a))) x xs h in
      let q = pairwise_cons (λ a b. not (before (rank b) (rank a))) y ys k in
      ⊎_elim
      (λ b. let t = tally_here x xs in let n = tally-none x (y ∷ ys) (b, upto-after x y ys b q.0) in let u = e x in absurd (omega arith))
      (⊎_elim
      (λ s.
      let first = one x y (same_eq (rank x) (rank y) s) in
      let rest : xs ≡ ys = unique_in_order one xs ys p.1 q.1 (λ z.
      let u = e z in
      let c : ◌≡◌ {A = ℕ} (cond (same (rank x) (rank z)) 1 0) (cond (same (rank y) (rank z)) 1 0) = ap (λ r. cond (same r (rank z)) 1 0) (same_eq (rank x) (rank y) s) in
      omega arith) in
      cc)
      (λ b. let t = tally_here y ys in let n = tally-none y (x ∷ xs) (b, upto-after y x xs b p.0) in let u = e y in absurd (omega arith)))
      (cases_rank (rank x) (rank y))
