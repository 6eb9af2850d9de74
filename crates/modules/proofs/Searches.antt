-- The search for a row that does not come after its neighbour. Assumes nothing.
use Rattle.std.proofs.Common.{◌≡◌, ℕ, ◌+◌, Bool, true, false, cond, not, List, [], ◌∷◌, drop, Some, Option, refl, sym, ap, add-zero, ◌∙◌, arith}
use Rattle.std.proofs.lemmas.Iterator.Adapters.{position_from-zero}
use Rattle.std.specs.List.{position, position_from, zip}
use Rattle.std.specs.Option.{option_map}
use Rattle.base.specs.declared.refusal.Refusal.TheVariants.{BadRow}
use Rattle.base.specs.declared.refusal.RowTable.{RowTable}
use Rattle.std.specs.declared.cmp.Ordering.{Ordering}
use Rattle.std.specs.declared.cmp.Ordering.TheVariants.{Less, Equal, Greater}
use Rattle.std.specs.Ordering.{is_lt}
use Rattle.order.specs.Rank.{before, Compared}
use Rattle.order.proofs.Search.{not_less}
use Rattle.modules.specs.BadRows.{unrisen}

found_there : {X : Type 0} (b : Bool) (f : ℕ → X) (i : ℕ) (o : Option X) (rest : Option ℕ) → o ≡ option_map f rest → cond b o (Some (f i)) ≡ option_map f (cond (not b) (Some i) rest)
found_there true f i o rest h = h
found_there false f i o rest h = refl

unrisen_from : {X : Type 0} (rank : X → List ℕ) (table : RowTable) (first j : ℕ) (xs : List X) → unrisen rank table (first + j) xs ≡ option_map (λ i. BadRow table (first + i + 1)) (position_from (λ (p : X × X). not (before (rank p.0) (rank p.1))) j (zip xs (drop 1 xs)))
unrisen_from rank table first j [] = refl
unrisen_from rank table first j (x ∷ []) = refl
unrisen_from rank table first j (x ∷ y ∷ ys) =
    let next : first + j + 1 ≡ first + (j + 1) = omega arith in
    found_there (before (rank x) (rank y)) (λ i. BadRow table (first + i + 1)) j _ _
    (ap (λ k. unrisen rank table k (y ∷ ys)) next ∙ unrisen_from rank table first (j + 1) (y ∷ ys))

-- the first row that its neighbour does not come after is the one before the row that is refused
pub unrisen_position : {X : Type 0} (rank : X → List ℕ) (table : RowTable) (first : ℕ) (xs : List X) → unrisen rank table first xs ≡ option_map (λ i. BadRow table (first + i + 1)) (position (λ (p : X × X). not (before (rank p.0) (rank p.1))) (zip xs (drop 1 xs)))
unrisen_position {X} rank table first xs =
    ap (λ k. unrisen rank table k xs) (sym (add-zero first))
    ∙ unrisen_from rank table first 0 xs
    ∙ ap (option_map (λ i. BadRow table (first + i + 1))) (sym (position_from-zero (λ (p : X × X). not (before (rank p.0) (rank p.1))) (zip xs (drop 1 xs))))

-- what a comparison says of the ranks
pub less_before : (o : Ordering) (a b : List ℕ) → Compared o a b → is_lt o ≡ before a b
less_before Less a b h = sym h
less_before Equal a b h = sym (not_less Equal a b (λ e. cc) h)
less_before Greater a b h = sym (not_less Greater a b (λ e. cc) h)
