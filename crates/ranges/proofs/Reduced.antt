-- What `reduce` gives whose calls always give what a function does. Assumes nothing.
use Rattle.std.proofs.Common.{◌≡◌, List, [], ◌∷◌, Some, None, Option, ap}
use denote.Param.Members.{Mut}
use Rattle.std.specs.Fn.{Called}
use Rattle.std.specs.Iterator.{ReducesItems}
use Rattle.std.specs.List.{FoldsTo, reduce}
use Rattle.std.proofs.lemmas.Iterator.{YieldsList}
use Rattle.std.proofs.lemmas.Iterator.Consumers.{reduce_from_yields_List}

module _ {F A : Type 0} (g : Mut F (A × (A × Unit {0})) A) (h : A → A → A) (calls : (f : F) (a x b : A) (q : F) → Called g f (a, (x, tt)) b q → b ≡ h a x) where
  folded : (xs : List A) (f q : F) (a b : A) → FoldsTo {P = F × A} (λ p x r. Called g p.0 (p.1, (x, tt)) r.1 r.0) (f, a) xs (q, b) → FoldsTo (λ p z c. c ≡ h p z) a xs b
  folded [] f q a b e = ap (λ (p : F × A). p.1) e
  folded (x ∷ xs) f q a b (j, turn, rest) = (j.1, calls f a x j.1 j.0 turn, folded xs j.0 q j.1 b rest)

  module _ {S : Type 0} {steps : S → Option A → S → Type 0} {all : List A} (s : S) (f : F) where
    pub reduced : (r : Option A) → ReducesItems steps g s f r → YieldsList steps (λ x. x) s all → r ≡ reduce h all
    reduced None ran e = reduce_from_yields_List h s None ran e
    reduced (Some y) (x, xs, q, drains, turns) e = reduce_from_yields_List h s (Some y) (x, xs, drains, folded xs f q x y turns) e
