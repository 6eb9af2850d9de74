-- What follows where one check came after another. Assumes nothing.
use Rattle.std.proofs.Common.{◌≡◌, ◌^◌, ◌<◌, List, length, Ok, Err, Result, refl, subst, ap, arith}
use Rattle.std.proofs.lemmas.Bool.Decides.{nat_tests}
use Rattle.std.specs.Result.{result_unwrap_or}
use Rattle.description.specs.declared.mistake.Mistake.{Mistake}
use Rattle.description.specs.Checks.{and_then}
use Rattle.description.specs.Lists.{short}

pub at_ok : {X E : Type 0} (P : X → Type 0) (x y : X) → ◌≡◌ {A = Result X E} (Ok x) (Ok y) → P x → P y
at_ok P x y e h = subst P (ap (λ r. result_unwrap_or r x) e) h

pub and_then_ok : {X Y E : Type 0} {P : Type 0} (k : X → Result Y E) (r : Result X E) (y : Y) → and_then r k ≡ Ok y → ((x : X) → r ≡ Ok x → k x ≡ Ok y → P) → P
and_then_ok k (Ok x) y e h = h x refl e
and_then_ok k (Err m) y e h = absurd cc

pub at_mapped : {X Y E : Type 0} (P : Y → Type 0) (f : X → Y) (r : Result X E) (y : Y) → and_then r (λ x. Ok (f x)) ≡ Ok y → ((x : X) → r ≡ Ok x → P (f x)) → P y
at_mapped P f r y e h = and_then_ok (λ x. Ok (f x)) r y e (λ x p g. at_ok P (f x) y g (h x p))

-- what is short enough is the list itself
pub short-same : {X : Type 0} (m : Mistake) (xs ys : List X) → short m xs ≡ Ok ys → xs ≡ ys
short-same m xs ys e = grind (arith, nat_tests)

pub short-short : {X : Type 0} (m : Mistake) (xs ys : List X) → short m xs ≡ Ok ys → length ys < 2 ^ 32
short-short m xs ys e = grind (arith, nat_tests)
