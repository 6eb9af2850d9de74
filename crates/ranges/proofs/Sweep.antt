-- How the stretches of a test grow from place to place. Assumes nothing.
use Rattle.std.proofs.Common.{◌≡◌, ℕ, zero, suc, ◌+◌, ◌<◌, ◌≤◌, ◌≢◌, Bool, true, false, cond, eqb, List, [], ◌∷◌, ◌++◌, Some, refl, sym, ap, ◌∙◌, ◌⊎◌, inr, subst, ⊎_elim, arith}
use Rattle.std.proofs.lemmas.List.{append-nil}
use Rattle.std.proofs.lemmas.Bool.{cases_lt, cases_Bool}
use Rattle.std.proofs.lemmas.Bool.Decides.{nat_tests}
use Rattle.inlining.specs.Stretches.{Stretch, with_place, stretches}
use Rattle.ranges.specs.Uncovered.{FirstStretch}

-- the stretches end below a place
abbrev pub Below : ℕ → List Stretch → Type 0
Below n [] = Unit {0}
Below n (s ∷ ss) = (s.upto < n) × Below n ss

Below-more : (m n : ℕ) (ss : List Stretch) → m ≤ n → Below m ss → Below n ss
Below-more m n [] l b = tt
Below-more m n (s ∷ ss) l b = (omega (arith, b.0), Below-more m n ss l b.1)

Below-append : (n : ℕ) (ss ts : List Stretch) → Below n ss → Below n ts → Below n (ss ++ ts)
Below-append n [] ts b c = c
Below-append n (s ∷ ss) ts b c = (b.0, Below-append n ss ts b.1 c)

eqb_other : (m n : ℕ) → m < n → eqb m n ≡ false
eqb_other m n l = grind (arith, nat_tests)

-- a place away from all stretches begins one
with_new : (n : ℕ) (ss : List Stretch) → Below n ss → with_place n ss ≡ ss ++ record { from = n; upto = n + 1 } ∷ []
with_new n [] b = refl
with_new n (s ∷ []) b = let e = eqb_other s.upto n b.0 in rw e
with_new n (s ∷ t ∷ ss) b = ap (λ us. s ∷ us) (with_new n (t ∷ ss) b.1)

-- one at the end of the last makes it grow
with_grown : (n from : ℕ) (ss : List Stretch) → with_place n (ss ++ record { from = from; upto = n } ∷ []) ≡ ss ++ record { from = from; upto = n + 1 } ∷ []
with_grown n from [] = let e : eqb n n ≡ true = grind (arith, nat_tests) in rw e
with_grown n from (s ∷ []) = ap (λ us. s ∷ us) (with_grown n from [])
with_grown n from (s ∷ t ∷ ss) = ap (λ us. s ∷ us) (with_grown n from (t ∷ ss))

-- only the last can grow
with_later : (n : ℕ) (ss : List Stretch) (t : Stretch) (ts : List Stretch) → with_place n (ss ++ t ∷ ts) ≡ ss ++ with_place n (t ∷ ts)
with_later n [] t ts = refl
with_later n (s ∷ []) t ts = refl
with_later n (s ∷ u ∷ ss) t ts = ap (λ us. s ∷ us) (with_later n (u ∷ ss) t ts)

-- another place makes them end one place further at most
Below-with : (n : ℕ) (ss : List Stretch) → Below (n + 1) ss → Below (n + 2) (with_place n ss)
Below-with n [] b = (omega arith, tt)
Below-with n (s ∷ []) b =
    elim (eqb s.upto n) as (λ t. Below (n + 2) (cond t (record { from = s.from; upto = n + 1 } ∷ []) (s ∷ record { from = n; upto = n + 1 } ∷ []))) [
      | true ↦ (omega arith, tt)
      | false ↦ (omega (arith, b.0), (omega arith, tt))
    ]
Below-with n (s ∷ t ∷ ss) b = (omega (arith, b.0), Below-with n (t ∷ ss) b.1)

module _ (test : ℕ → Bool) where
  ends : (n : ℕ) → Below (n + 1) (stretches test n)
  ends zero = tt
  ends (suc n) =
      let b = ends n in
      elim (test n) as (λ t. Below (suc n + 1) (cond t (with_place n (stretches test n)) (stretches test n))) [
        | true ↦ Below-more (n + 2) (suc n + 1) (with_place n (stretches test n)) (omega arith) (Below-with n (stretches test n) b)
        | false ↦ Below-more (n + 1) (suc n + 1) (stretches test n) (omega arith) b
      ]

  step_false : (n : ℕ) → test n ≡ false → stretches test (suc n) ≡ stretches test n
  step_false n e = rw (stretches, e)

  step_true : (n : ℕ) → test n ≡ true → stretches test (suc n) ≡ with_place n (stretches test n)
  step_true n e = rw (stretches, e)

  -- where the test fails, nothing comes
  pub failing : (x n : ℕ) → x ≤ n → ((p : ℕ) → x ≤ p → p < n → test p ≡ false) → stretches test n ≡ stretches test x
  failing x zero l f = let e : 0 ≡ x = omega arith in ap (stretches test) e
  failing x (suc n) l f =
      ⊎_elim (λ m. let e : suc n ≡ x = omega arith in ap (stretches test) e)
      (λ m. step_false n (f n m (omega arith)) ∙ failing x n m (λ p k h. f p k (omega arith)))
      (cases_lt n x)

  -- where it passes, one stretch grows
  passing : (x n : ℕ) → x < n → Below x (stretches test x) → ((p : ℕ) → x ≤ p → p < n → test p ≡ true) → stretches test n ≡ stretches test x ++ record { from = x; upto = n } ∷ []
  passing x zero l b f = absurd (omega arith)
  passing x (suc n) l b f =
      let t = f n (omega arith) (omega arith) in
      ⊎_elim (λ m. step_true n t ∙ ap (with_place n) (passing x n m b (λ p k h. f p k (omega arith))) ∙ with_grown n x (stretches test x) ∙ ap (λ k. stretches test x ++ record { from = x; upto = k } ∷ []) (omega arith))
      (λ m. let e : n ≡ x = omega arith in
      step_true n t ∙ ap (λ k. with_place k (stretches test k)) e ∙ with_new x (stretches test x) b ∙ ap (λ k. stretches test x ++ record { from = x; upto = k } ∷ []) (omega arith))
      (cases_lt x n)

  -- no stretch reaches a place from which on another may begin
  abbrev pub Closed : ℕ → Type 0
  Closed place = (place ≡ 0) ⊎ (test place ≡ false)

  other : (p q : ℕ) → test p ≡ true → test q ≡ false → p ≢ q
  other p q t f e = let g : test q ≡ true = ap test (sym e) ∙ t in cc

  apart : (place n : ℕ) → Closed place → place ≤ n → test n ≡ true → Below n (stretches test place)
  apart place n c l t =
      ⊎_elim (λ z. subst (λ k. Below n (stretches test k)) (sym z) tt)
      (λ f. let d = other n place t f in Below-more (place + 1) n (stretches test place) (omega arith) (ends place))
      c

  module _ {place start end : ℕ} (c : Closed place) (found : FirstStretch test place (Some (start, end))) where
    pub rises : start < end
    rises = let d = other start end found.0.1 found.1.1 in let l = found.1.0 in omega arith

    pub ended : Closed end
    ended = inr found.1.1

    pub grown : stretches test end ≡ stretches test place ++ record { from = start; upto = end } ∷ []
    grown =
        let same = failing place start found.0.0 found.0.2 in
        passing start end rises (subst (Below start) (sym same) (apart place start c found.0.0 found.0.1)) found.1.2 ∙ ap (λ ss. ss ++ record { from = start; upto = end } ∷ []) same

    pub within : (f : ℕ) → ((p : ℕ) → f ≤ p → test p ≡ false) → end ≤ f
    within f past =
        ⊎_elim (λ l.
        ⊎_elim (λ m. let t : test f ≡ true = found.1.2 f (omega arith) l in let u = past f (omega arith) in cc)
        (λ m. let t = found.0.1 in let u = past start m in cc)
        (cases_lt start f))
        (λ l. l)
        (cases_lt f end)

  kept_more : (place n : ℕ) → Closed place → place ≤ n → test n ≡ true → (more : List Stretch) → (others : List Stretch) × (with_place n (stretches test place ++ more) ≡ stretches test place ++ others)
  kept_more place n c l t [] = (record { from = n; upto = n + 1 } ∷ [], ap (with_place n) (append-nil (stretches test place)) ∙ with_new n (stretches test place) (apart place n c l t))
  kept_more place n c l t (s ∷ ss) = (with_place n (s ∷ ss), with_later n (stretches test place) s ss)

  -- the stretches below a place that none reaches stay
  pub kept : (place n : ℕ) → Closed place → place ≤ n → (more : List Stretch) × (stretches test n ≡ stretches test place ++ more)
  kept place zero c l = let e : 0 ≡ place = omega arith in ([], ap (stretches test) e ∙ sym (append-nil (stretches test place)))
  kept place (suc n) c l =
      ⊎_elim (λ m. let e : suc n ≡ place = omega arith in ([], ap (stretches test) e ∙ sym (append-nil (stretches test place))))
      (λ m.
      let before = kept place n c m in
      ⊎_elim (λ t. let after = kept_more place n c m t before.0 in (after.0, step_true n t ∙ ap (with_place n) before.1 ∙ after.1))
      (λ f. (before.0, step_false n f ∙ before.1))
      (cases_Bool (test n)))
      (cases_lt n place)
