-- Stretches are the longest, and end at or before the number below which they are taken. Assumes nothing.
use Rattle.std.proofs.Common.{◌≡◌, ℕ, zero, suc, ◌+◌, ◌<◌, ◌≤◌, Bool, true, false, ◌||◌, ◌&&◌, eqb, ltb, List, [], ◌∷◌, sym, refl, ap, ◌∙◌, ⊎_elim, arith}
use Rattle.std.specs.List.{AllByRecursion, list_any}
use Rattle.std.proofs.ByRecursion.{All-weaker}
use Rattle.std.proofs.lemmas.Bool.{cond_both, and_from, and_left, and_right, or_right, eqb-true, eqb-false, eq-eqb, ne_eqb, lt-ltb, le-ltb, cases_eq}
use Rattle.std.proofs.lemmas.Bool.Decides.{nat_tests}
use Rattle.order.specs.Rank.{inside}
use Rattle.inlining.specs.Stretches.{Stretch, with_place, stretches}
use Rattle.inlining.specs.Laws.{Apart, Longest}

-- all end at or before a place
abbrev pub Below : ℕ → List Stretch → Type 0
Below n ss = AllByRecursion (λ s. s.upto ≤ n) ss

-- a place is in one of them
abbrev pub within : ℕ → List Stretch → Bool
within place ss = list_any (λ s. inside s.from s.upto place) ss

or_assoc : (a b c : Bool) → (a || (b || c)) ≡ ((a || b) || c)
or_assoc true b c = refl
or_assoc false b c = refl

or_false : (a : Bool) → (a || false) ≡ a
or_false true = refl
or_false false = refl

in_one : (n place : ℕ) → inside n (n + 1) place ≡ eqb place n
in_one n place = grind (arith, nat_tests)

in_grown : (from n place : ℕ) → from ≤ n → inside from (n + 1) place ≡ (inside from n place || eqb place n)
in_grown from n place h = grind (arith, nat_tests)

module _ (n : ℕ) where
  below_with : (ss : List Stretch) → Below n ss → Below (n + 1) (with_place n ss)
  below_with [] b = (omega arith, tt)
  below_with (s ∷ []) b =
      cond_both (eqb s.upto n) _ _ (Below (n + 1))
      (λ e. (omega arith, tt))
      (λ e. (let c = b.0 in omega arith, (omega arith, tt)))
  below_with (s ∷ t ∷ ss) b = (let c = b.0 in omega arith, below_with (t ∷ ss) b.1)

  apart_next : (s t : Stretch) (ss : List Stretch) → s.from < s.upto → s.upto < t.from → Apart (t ∷ ss) → Below n (t ∷ ss) → Apart (s ∷ with_place n (t ∷ ss))
  apart_next s t [] h k a b =
      cond_both (eqb t.upto n) _ _ (λ zs. Apart (s ∷ zs))
      (λ e. (h, k, (let c = b.0 in omega arith)))
      (λ e. let c = b.0 in let d = eqb-false t.upto n e in (h, k, (a, omega arith, omega arith)))
  apart_next s t (u ∷ us) h k a b = (h, k, apart_next t u us a.0 a.1 a.2 b.1)

  apart_with : (ss : List Stretch) → Apart ss → Below n ss → Apart (with_place n ss)
  apart_with [] a b = omega arith
  apart_with (s ∷ []) a b =
      cond_both (eqb s.upto n) _ _ Apart
      (λ e. let c = b.0 in omega arith)
      (λ e. let c = b.0 in let d = eqb-false s.upto n e in (a, omega arith, omega arith))
  apart_with (s ∷ t ∷ ss) a b = apart_next s t ss a.0 a.1 a.2 b.1

  within_with : (ss : List Stretch) → Apart ss → Below n ss → (place : ℕ) → within place (with_place n ss) ≡ (within place ss || eqb place n)
  within_with [] a b place = or_false _ ∙ in_one n place
  within_with (s ∷ []) a b place =
      let now = inside s.from s.upto place in
      let last = eqb place n in
      cond_both (eqb s.upto n) _ _ (λ zs. within place zs ≡ ((now || false) || last))
      (λ e. let d = eqb-true s.upto n e in
      or_false _ ∙ in_grown s.from n place (omega arith) ∙ ap (λ u. inside s.from u place || last) (sym d) ∙ ap (λ t. t || last) (sym (or_false now)))
      (λ e. ap (λ t. now || t) (or_false _ ∙ in_one n place) ∙ ap (λ t. t || last) (sym (or_false now)))
  within_with (s ∷ t ∷ ss) a b place =
      ap (λ u. inside s.from s.upto place || u) (within_with (t ∷ ss) a.2 b.1 place) ∙ or_assoc (inside s.from s.upto place) (within place (t ∷ ss)) (eqb place n)

module _ (test : ℕ → Bool) where
  -- the stretches below a number end at or before it
  pub below : (n : ℕ) → Below n (stretches test n)
  below zero = tt
  below (suc n) =
      cond_both (test n) _ _ (Below (suc n))
      (λ e. All-weaker (λ s. s.upto ≤ n + 1) (λ s. s.upto ≤ suc n) (λ s h. omega arith) _ (below_with n (stretches test n) (below n)))
      (λ e. All-weaker (λ s. s.upto ≤ n) (λ s. s.upto ≤ suc n) (λ s h. omega arith) (stretches test n) (below n))

  apart : (n : ℕ) → Apart (stretches test n)
  apart zero = tt
  apart (suc n) = cond_both (test n) _ _ Apart (λ e. apart_with n (stretches test n) (apart n) (below n)) (λ e. apart n)

  one_more : (n place : ℕ) → test n ≡ true → ((ltb place n && test place) || eqb place n) ≡ (ltb place (suc n) && test place)
  one_more n place h =
      ⊎_elim
      (λ e. or_right _ _ (eq-eqb place n e) ∙ sym (and_from _ _ (lt-ltb place (suc n) (omega arith)) (ap test e ∙ h)))
      (λ e. let d : ltb place n ≡ ltb place (suc n) = grind (arith, nat_tests) in
      ap (λ t. (ltb place n && test place) || t) (ne_eqb place n e) ∙ or_false (ltb place n && test place) ∙ ap (λ t. t && test place) d)
      (cases_eq place n)

  none_more : (n place : ℕ) → test n ≡ false → (ltb place n && test place) ≡ (ltb place (suc n) && test place)
  none_more n place h =
      ⊎_elim
      (λ e. and_right _ _ (ap test e ∙ h) ∙ sym (and_right _ _ (ap test e ∙ h)))
      (λ e. let d : ltb place n ≡ ltb place (suc n) = grind (arith, nat_tests) in ap (λ t. t && test place) d)
      (cases_eq place n)

  within_all : (n place : ℕ) → within place (stretches test n) ≡ (ltb place n && test place)
  within_all zero place = sym (and_left _ _ (le-ltb place 0 (omega arith)))
  within_all (suc n) place =
      cond_both (test n) _ _ (λ zs. within place zs ≡ (ltb place (suc n) && test place))
      (λ e. within_with n (stretches test n) (apart n) (below n) place ∙ ap (λ t. t || eqb place n) (within_all n place) ∙ one_more n place e)
      (λ e. within_all n place ∙ none_more n place e)

-- the law of stretches: they lie apart, rising, and hold just the places that pass
pub longest : (test : ℕ → Bool) (n : ℕ) → Longest test n
longest test n = (apart test n, within_all test n)
