-- Several numbers, one after another. Assumes nothing.
use Rattle.std.proofs.Common.{◌≡◌, ◌∙◌, ℕ, Bool, true, false, cond, ◌||◌, eqb, nat_lt, ◌==◌, List, [], ◌∷◌, ◌++◌, length, Some, None, Option, option_and_then, sym, ap, subst, refl, arith}
use Rattle.std.proofs.Math.Bool.{or-false, or_assoc}
use Rattle.std.proofs.lemmas.Bool.Decides.{nat_tests}
use Rattle.std.proofs.lemmas.List.Folds.{list_any-append}
use Rattle.provider.specs.Modules.{Modules, absent}
use Rattle.hiding.specs.Hidden.{among, hide, most, with, with_each}

absorbed : (b c : Bool) → (c ≡ true → b ≡ true) → b ≡ (b || c)
absorbed true c h = refl
absorbed false true h = h refl
absorbed false false h = refl

same_number : (numbers : List ℕ) (n k : ℕ) → among numbers n ≡ true → among numbers k ≡ (among numbers k || eqb n k)
same_number numbers n k h =
    absorbed (among numbers k) (eqb n k) (λ e. let same : n ≡ k = grind (arith, nat_tests) in subst (λ j. among numbers j ≡ true) same h)

-- a list with one number more has what it had, and that number
among_with : (numbers more : List ℕ) (n k : ℕ) → with numbers n ≡ Some more → among more k ≡ (among numbers k || eqb n k)
among_with numbers more n k h = go (among numbers n) (nat_lt (length numbers) most) refl h
  where
    go : (b c : Bool) → among numbers n ≡ b → cond b (Some numbers) (cond c (Some (numbers ++ n ∷ [])) None) ≡ Some more → among more k ≡ (among numbers k || eqb n k)
    go true c e h = let same : numbers ≡ more = cc in subst (λ ms. among ms k ≡ (among numbers k || eqb n k)) same (same_number numbers n k e)
    go false true e h =
        let same : numbers ++ n ∷ [] ≡ more = cc in
        subst (λ ms. among ms k ≡ (among numbers k || eqb n k)) same
        (list_any-append (λ m. m == k) numbers (n ∷ []) ∙ ap (λ b. among numbers k || b) (or-false (eqb n k)))
    go false false e h = cc

among_after : (ns numbers more : List ℕ) (n k : ℕ) (o : Option (List ℕ)) → with numbers n ≡ o → option_and_then (with_each ns) o ≡ Some more → ((ms : List ℕ) → with_each ns ms ≡ Some more → among more k ≡ (among ms k || among ns k)) → among more k ≡ (among numbers k || among (n ∷ ns) k)
among_after ns numbers more n k None e h rest = cc
among_after ns numbers more n k (Some ms) e h rest =
    rest ms h ∙ ap (λ b. b || among ns k) (among_with numbers ms n k e) ∙ or_assoc (among numbers k) (eqb n k) (among ns k)

among_with_each : (ns numbers more : List ℕ) (k : ℕ) → with_each ns numbers ≡ Some more → among more k ≡ (among numbers k || among ns k)
among_with_each [] numbers more k h =
    let same : numbers ≡ more = cc in
    subst (λ ms. among ms k ≡ (among numbers k || false)) same (sym (or-false (among numbers k)))
among_with_each (n ∷ ns) numbers more k h =
    among_after ns numbers more n k (with numbers n) refl h (λ ms. among_with_each ns ms more k)

-- hiding several numbers, one after another, hides just these
pub hide_each : (ns more : List ℕ) (ms : Modules) → with_each ns [] ≡ Some more → hide more ms ≡ hide ns ms
hide_each ns more ms h = λ i. record { count = ms.count; at = λ k. cond (among_with_each ns [] more k h i) absent (ms.at k) }
