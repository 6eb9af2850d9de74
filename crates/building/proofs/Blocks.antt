-- Blocks in order, of which no neighbours overlap, lie apart. Assumes nothing.
use Rattle.std.proofs.Common.{◌≡◌, ℕ, zero, suc, ◌<◌, true, false, cond, not, List, [], ◌∷◌, ◌++◌, length, get_or, Some, None, fold, sym, refl, ap, ◌∙◌, subst, ⊎_elim, arith}
use Rattle.std.specs.List.{AllByRecursion}
use Rattle.std.proofs.lemmas.Bool.{cases_Bool, cond-true, cond-false}
use Rattle.std.proofs.ByRecursion.{All-weaker, All-from_get_or}
use Rattle.std.proofs.lemmas.Bool.Decides.{nat_tests}
use Rattle.order.specs.Rank.{before, same, InOrder, Pairwise, tally}
use Rattle.order.proofs.Ranks.{same_refl, same_eq}
use Rattle.order.proofs.Rows.{pairwise_cons, pairwise_from, pairwise-none}
use Rattle.order.proofs.Unique.{unique_in_order}
use Rattle.base.specs.Rows.{contribution_rank, no_contribution}
use Rattle.base.specs.declared.image.SectionContribution.{SectionContribution}
use Rattle.base.specs.declared.context.Contribution.{Contribution}
use Rattle.base.specs.declared.refusal.Refusal.{Refusal}
use Rattle.building.specs.Blocks.{block, joins, grown, more, blocks, Stands, overlaps, first_overlap, apart}
use Rattle.building.specs.Filling.{Proper}
use Rattle.building.proofs.Filling.{stands-none, stands-more}

apart_trans : (a b c : Contribution) → b.start < b.end → apart a b ≡ true → apart b c ≡ true → apart a c ≡ true
apart_trans a b c p h k = grind (arith, nat_tests)

-- neighbours in order that do not overlap
apart_next : (a b : Contribution) → not (before (contribution_rank b) (contribution_rank a)) ≡ true → overlaps a b ≡ false → apart a b ≡ true
apart_next a b h k = grind (arith, nat_tests)

some_never : (r : Refusal) → Some r ≡ None → ⊥
some_never r e = let z : ◌≡◌ {A = ℕ} 0 1 = cc in omega arith

pub apart_all : (xs : List Contribution) → InOrder contribution_rank xs → first_overlap xs ≡ None → Proper xs → Pairwise apart xs
apart_all [] o f p = pairwise-none apart
apart_all (a ∷ []) o f p = pairwise_from apart a [] tt (pairwise-none apart)
apart_all (a ∷ b ∷ xs) o f p =
    let q = pairwise_cons (λ x y. not (before (contribution_rank y) (contribution_rank x))) a (b ∷ xs) o in
    ⊎_elim
    (λ t. absurd (some_never _ (sym (cond-true _ _ _ t) ∙ f)))
    (λ t.
    let ih = apart_all (b ∷ xs) q.1 (sym (cond-false _ _ _ t) ∙ f) p.1 in
    let next = apart_next a b q.0.0 t in
    pairwise_from apart a (b ∷ xs) (next, All-weaker (λ y. apart b y ≡ true) (λ y. apart a y ≡ true) (λ y u. apart_trans a b y p.1.0 next u) xs (pairwise_cons apart b xs ih).0) ih)
    (cases_Bool (overlaps a b))

-- a contribution is known by its rank
of_rank : List ℕ → Contribution
of_rank (s ∷ t ∷ e ∷ m ∷ ns) = record { section = s; start = t; end = e; «module» = m }
of_rank (s ∷ t ∷ e ∷ []) = no_contribution
of_rank (s ∷ t ∷ []) = no_contribution
of_rank (s ∷ []) = no_contribution
of_rank [] = no_contribution

one_rank : (a b : Contribution) → contribution_rank a ≡ contribution_rank b → a ≡ b
unfolding of_rank
one_rank a b e = ap of_rank e

pub stands_one : (bs xs ys : List Contribution) → Stands bs xs → Stands bs ys → xs ≡ ys
stands_one bs xs ys h k = unique_in_order contribution_rank one_rank xs ys h.in_order k.in_order (λ c. h.as_often c ∙ sym (k.as_often c))

-- any blocks can be put in order
pub stands-some : (bs : List Contribution) → (xs : List Contribution) × Stands bs xs
stands-some [] = ([], stands-none)
stands-some (b ∷ bs) = let r = stands-some bs in (_, stands-more bs r.0 b r.1)

folded_append : {A X : Type 0} (f : A → X → A) (a : A) (xs : List X) (x : X) → fold f a (xs ++ x ∷ []) ≡ f (fold f a xs) x
folded_append f a [] x = refl
folded_append f a (y ∷ ys) x = folded_append f (f a y) ys x

pub blocks_more : (cs : List SectionContribution) (c : SectionContribution) → blocks (cs ++ c ∷ []) ≡ more (blocks cs) c
blocks_more cs c = folded_append more [] cs c

-- there is a block as soon as there is a contribution
more-some : (bs : List Contribution) (c : SectionContribution) → 0 < length (more bs c)
more-some [] c = omega arith
more-some (b ∷ bs) c = elim (joins b c) as (λ t. 0 < length (cond t (grown b c ∷ bs) (block c ∷ b ∷ bs))) [ true ↦ omega arith | false ↦ omega arith ]

folded_some : (bs : List Contribution) (cs : List SectionContribution) → 0 < length bs → 0 < length (fold more bs cs)
folded_some bs [] l = l
folded_some bs (c ∷ cs) l = folded_some (more bs c) cs (more-some bs c)

pub blocks-none : (cs : List SectionContribution) → blocks cs ≡ [] → cs ≡ []
blocks-none [] e = refl
blocks-none (c ∷ cs) e =
    let l = folded_some (more [] c) cs (more-some [] c) in
    let m : length (blocks (c ∷ cs)) ≡ 0 = ap length e in
    absurd (omega arith)

-- what holds of the blocks holds of them in order
tally-at : (xs : List Contribution) (k : ℕ) (d : Contribution) → k < length xs → 0 < tally contribution_rank (contribution_rank (get_or xs k d)) xs
tally-at [] k d l = absurd (omega arith)
tally-at (x ∷ xs) zero d l = let e : ◌≡◌ {A = ℕ} (cond (same (contribution_rank x) (contribution_rank x)) 1 0) 1 = ap (λ t. cond t 1 0) (same_refl (contribution_rank x)) in omega arith
tally-at (x ∷ xs) (suc k) d l = let h = tally-at xs k d (omega arith) in omega arith

tally_has : (P : Contribution → Type 0) (bs : List Contribution) (x : Contribution) → 0 < tally contribution_rank (contribution_rank x) bs → AllByRecursion P bs → P x
tally_has P [] x l a = absurd (omega arith)
tally_has P (b ∷ bs) x l a =
    ⊎_elim
    (λ t. subst P (one_rank b x (same_eq (contribution_rank b) (contribution_rank x) t)) a.0)
    (λ t. tally_has P bs x (let e : ◌≡◌ {A = ℕ} (cond (same (contribution_rank b) (contribution_rank x)) 1 0) 0 = ap (λ v. cond v 1 0) t in omega arith) a.1)
    (cases_Bool (same (contribution_rank b) (contribution_rank x)))

pub stands_all : (P : Contribution → Type 0) (bs xs : List Contribution) → Stands bs xs → AllByRecursion P bs → AllByRecursion P xs
stands_all P bs xs h a =
    All-from_get_or P xs no_contribution (λ k l. tally_has P bs (get_or xs k no_contribution) (subst (λ n. 0 < n) (h.as_often (get_or xs k no_contribution)) (tally-at xs k no_contribution l)) a)
