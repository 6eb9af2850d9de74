-- The procedures of a module, one kept record after the other. Assumes nothing.
use Rattle.std.proofs.Common.{◌≡◌, ℕ, ◌+◌, ◌≤◌, true, false, cond, ltb, List, [], ◌∷◌, ◌++◌, map, length, drop, Some, None, Ok, Err, fold, Option, Result, sym, refl, ap, ◌∙◌, subst, ⊎_elim, arith}
use Rattle.std.proofs.lemmas.List.{length-map}
use Rattle.std.proofs.lemmas.List.Sums.{fold_push}
use Rattle.std.proofs.lemmas.Bool.{cases_Bool, cond-true, cond-false, ltb-false}
use Rattle.std.specs.Option.{option_map}
use Rattle.std.specs.List.{slice_get}
use Rattle.order.specs.declared.Meeting.{Meeting}
use Rattle.order.specs.declared.Meeting.TheVariants.{Stays, GivesWay, Both}
use Rattle.order.specs.Rank.{before, same, Rises, later, last, at}
use Rattle.order.specs.Placed.{met, placed}
use Rattle.order.proofs.Ranks.{same_eq, same_refl, before_irrefl, before_asym, before_not_same}
use Rattle.order.proofs.Rows.{winner, by_place, pairwise-none, rises-placed, at-placed_away, at-placed_here, same_flip}
use Rattle.base.specs.Rows.{offset_rank}
use Rattle.base.specs.declared.image.SectionOffset.{SectionOffset}
use Rattle.base.specs.Lists.{Ending}
use Rattle.base.specs.declared.refusal.Refusal.{Refusal}
use Rattle.base.specs.declared.refusal.Refusal.TheVariants.{ProcedureOutside, TooManyProcedures}
use Rattle.building.specs.Starts.{or_else}
use Rattle.building.specs.Outcome.{top}
use Rattle.building.proofs.Items.{item_drop}
use Rattle.provider.specs.Modules.{Content, absent, broken, present}
use Rattle.provider.specs.declared.symbols.SymbolRecord.{SymbolRecord}
use Rattle.procedures.specs.Rows.{procedure_rank, procedure_meets, parent_rank, parent_meets, parent_of}
use Rattle.procedures.specs.declared.row.Procedure.{Procedure}
use Rattle.procedures.specs.declared.row.Parent.{Parent}
use Rattle.lookup.specs.Reading.{most_procedures, starts_at, adopted, kept, in_order, procedure_refusal, unless_refused, with_kept, all_kept, ended, reading}
use Rattle.lookup.specs.Keeping.{parents, adopted_by}
use Rattle.lookup.specs.Laws.{FirstsInOrder}
use Rattle.lookup.proofs.Choosing.{later-none}

-- rows placed one after the other, each made of an item
module _ {X R : Type 0} (rank : R → List ℕ) (meets : R → R → Meeting) (row : X → R) where
  abbrev gathered : List R → List X → List R
  gathered rs xs = fold (λ ys x. placed rank meets (row x) ys) rs xs

  rises_gathered : ((x r : R) → meets x r ≡ Both → ⊥) → (rs : List R) (xs : List X) → Rises rank rs → Rises rank (gathered rs xs)
  rises_gathered one rs [] h = h
  rises_gathered one rs (x ∷ xs) h = rises_gathered one (placed rank meets (row x) rs) xs (rises-placed rank meets one (row x) rs h)

  abbrev ranked : List ℕ → List (List ℕ) → List (List ℕ)
  ranked q qs = placed (λ p. p) (λ _ _. Stays) q qs

  -- which ranks there are does not depend on the rows
  ranks_placed : ((x r : R) → meets x r ≡ Both → ⊥) → (r : R) (rs : List R) → map rank (placed rank meets r rs) ≡ ranked (rank r) (map rank rs)
  ranks_placed one r [] = refl
  ranks_placed one r (x ∷ rs) =
      by_place rank meets r x rs
      (λ b e. ap (map rank) e ∙ ap (λ qs. rank x ∷ qs) (ranks_placed one r rs) ∙ sym (cond-true (before (rank x) (rank r)) _ _ b))
      (λ s e.
      let i : before (rank x) (rank r) ≡ false = subst (λ q. before (rank x) q ≡ false) s (before_irrefl (rank x)) in
      let j : same (rank x) (rank r) ≡ true = subst (λ q. same (rank x) q ≡ true) s (same_refl (rank x)) in
      ap (map rank) e ∙ (
      (elim (meets x r) as (λ m. (m ≡ Both → ⊥) → map rank (met m x r rs) ≡ rank x ∷ map rank rs) [
        | Stays ↦ λ _. refl
        | GivesWay ↦ λ _. ap (λ q. q ∷ map rank rs) (sym s)
        | Both ↦ λ never. absurd (never refl)
      ]) (one x r)) ∙ sym (cond-false (before (rank x) (rank r)) _ _ i ∙ cond-true (same (rank x) (rank r)) _ _ j))
      (λ b e.
      let i : before (rank x) (rank r) ≡ false = before_asym (rank r) (rank x) b in
      let j : same (rank x) (rank r) ≡ false = same_flip (rank r) (rank x) (before_not_same (rank r) (rank x) b) in
      ap (map rank) e ∙ sym (cond-false (before (rank x) (rank r)) _ _ i ∙ cond-false (same (rank x) (rank r)) _ _ j))

  ranks_gathered : ((x r : R) → meets x r ≡ Both → ⊥) → (rs : List R) (xs : List X) → map rank (gathered rs xs) ≡ fold (λ qs x. ranked (rank (row x)) qs) (map rank rs) xs
  ranks_gathered one rs [] = refl
  ranks_gathered one rs (x ∷ xs) =
      ranks_gathered one (placed rank meets (row x) rs) xs ∙ ap (λ qs. fold (λ ps y. ranked (rank (row y)) ps) qs xs) (ranks_placed one (row x) rs)

-- procedures in order

pub in_order_push : (ps : List Procedure) (p : Procedure) → in_order (ps ++ p ∷ []) ≡ placed procedure_rank procedure_meets p (in_order ps)
in_order_push ps p = fold_push (λ xs x. placed procedure_rank procedure_meets x xs) [] ps p

procedures_one : (x r : Procedure) → procedure_meets x r ≡ Both → ⊥
procedures_one x r e = let z : ◌≡◌ {A = ℕ} 0 1 = cc in omega arith

pub in_order-rises : (ps : List Procedure) → Rises procedure_rank (in_order ps)
in_order-rises ps =
    rises_gathered procedure_rank procedure_meets (λ p. p) procedures_one [] ps (pairwise-none (λ x y. before (procedure_rank x) (procedure_rank y)))

abbrev placing : List Procedure → List Procedure → List Procedure
placing xs ps = gathered procedure_rank procedure_meets (λ p. p) xs ps

first_wins : (o : Option Procedure) (p : Procedure) → Some (winner procedure_rank procedure_meets o p) ≡ or_else o (Some p)
first_wins None p = refl
first_wins (Some x) p = refl

or_none : {X : Type 0} (o : Option X) → or_else o None ≡ o
or_none None = refl
or_none (Some x) = refl

or_some : (o : Option Procedure) (p : Procedure) (rest : Option Procedure) → or_else (or_else o (Some p)) rest ≡ or_else o (Some p)
or_some None p rest = refl
or_some (Some x) p rest = refl

firsts_from : (q : List ℕ) (xs ps : List Procedure) → Rises procedure_rank xs → at procedure_rank q (placing xs ps) ≡ or_else (at procedure_rank q xs) (at procedure_rank q ps)
firsts_from q xs [] h = sym (or_none (at procedure_rank q xs))
firsts_from q xs (p ∷ ps) h =
    firsts_from q (placed procedure_rank procedure_meets p xs) ps (rises-placed procedure_rank procedure_meets procedures_one p xs h) ∙
    ⊎_elim
    (λ s.
    let e : procedure_rank p ≡ q = same_eq (procedure_rank p) q s in
    let here : at procedure_rank q (placed procedure_rank procedure_meets p xs) ≡ or_else (at procedure_rank q xs) (Some p) =
    subst (λ r. at procedure_rank r (placed procedure_rank procedure_meets p xs) ≡ or_else (at procedure_rank r xs) (Some p)) e
    (at-placed_here procedure_rank procedure_meets p xs h ∙ first_wins (at procedure_rank (procedure_rank p) xs) p) in
    ap (λ o. or_else o (at procedure_rank q ps)) here ∙ or_some (at procedure_rank q xs) p (at procedure_rank q ps) ∙ ap (or_else (at procedure_rank q xs)) (sym (cond-true (same (procedure_rank p) q) (Some p) (at procedure_rank q ps) s)))
    (λ s.
    ap (λ o. or_else o (at procedure_rank q ps)) (at-placed_away procedure_rank procedure_meets q p xs s) ∙ ap (or_else (at procedure_rank q xs)) (sym (cond-false (same (procedure_rank p) q) (Some p) (at procedure_rank q ps) s)))
    (cases_Bool (same (procedure_rank p) q))

pub firsts_in_order : (ps : List Procedure) → FirstsInOrder ps
firsts_in_order ps = (in_order-rises ps, λ o. firsts_from (offset_rank o) [] ps (pairwise-none (λ x y. before (procedure_rank x) (procedure_rank y))))

-- parents: of each offset the last

pub parents_push : (ps : List Procedure) (p : Procedure) → parents (ps ++ p ∷ []) ≡ placed parent_rank parent_meets (parent_of p) (parents ps)
parents_push ps p = fold_push (λ xs x. placed parent_rank parent_meets (parent_of x) xs) [] ps p

parents_one : (x r : Parent) → parent_meets x r ≡ Both → ⊥
parents_one x r e = let z : ◌≡◌ {A = ℕ} 0 1 = cc in omega arith

pub parents-rises : (ps : List Procedure) → Rises parent_rank (parents ps)
parents-rises ps =
    rises_gathered parent_rank parent_meets parent_of parents_one [] ps (pairwise-none (λ x y. before (parent_rank x) (parent_rank y)))

-- both have one row for each offset
pub parents-length : (ps : List Procedure) → length (parents ps) ≡ length (in_order ps)
parents-length ps =
    sym (length-map (parents ps) parent_rank) ∙
    ap length (ranks_gathered parent_rank parent_meets parent_of parents_one [] ps ∙ sym (ranks_gathered procedure_rank procedure_meets (λ p. p) procedures_one [] ps)) ∙
    length-map (in_order ps) procedure_rank

last_wins : (o : Option Parent) (p : Parent) → winner parent_rank parent_meets o p ≡ p
last_wins None p = refl
last_wins (Some x) p = refl

abbrev fathering : List Parent → List Procedure → List Parent
fathering xs ps = gathered parent_rank parent_meets parent_of xs ps

later-some : (l : Option Procedure) (p : Procedure) (o : Option Parent) → later (option_map parent_of l) (Some (parent_of p)) ≡ later (option_map parent_of (later l (Some p))) o
later-some None p o = refl
later-some (Some x) p o = refl

lasts_from : (q : List ℕ) (xs : List Parent) (ps : List Procedure) → Rises parent_rank xs → at parent_rank q (fathering xs ps) ≡ later (option_map parent_of (last (λ p. same (procedure_rank p) q) ps)) (at parent_rank q xs)
lasts_from q xs [] h = refl
lasts_from q xs (p ∷ ps) h =
    lasts_from q (placed parent_rank parent_meets (parent_of p) xs) ps (rises-placed parent_rank parent_meets parents_one (parent_of p) xs h) ∙
    ⊎_elim
    (λ s.
    let e : procedure_rank p ≡ q = same_eq (procedure_rank p) q s in
    let here : at parent_rank q (placed parent_rank parent_meets (parent_of p) xs) ≡ Some (parent_of p) =
    subst (λ r. at parent_rank r (placed parent_rank parent_meets (parent_of p) xs) ≡ Some (parent_of p)) e
    (at-placed_here parent_rank parent_meets (parent_of p) xs h ∙ ap Some (last_wins (at parent_rank (procedure_rank p) xs) (parent_of p))) in
    ap (later (option_map parent_of (last (λ x. same (procedure_rank x) q) ps))) here ∙
    later-some (last (λ x. same (procedure_rank x) q) ps) p (at parent_rank q xs) ∙
    ap (λ o. later (option_map parent_of (later (last (λ x. same (procedure_rank x) q) ps) o)) (at parent_rank q xs)) (sym (cond-true (same (procedure_rank p) q) (Some p) None s)))
    (λ s.
    ap (later (option_map parent_of (last (λ x. same (procedure_rank x) q) ps))) (at-placed_away parent_rank parent_meets q (parent_of p) xs s) ∙
    ap (λ l. later (option_map parent_of l) (at parent_rank q xs)) (sym (later-none (last (λ x. same (procedure_rank x) q) ps))) ∙
    ap (λ o. later (option_map parent_of (later (last (λ x. same (procedure_rank x) q) ps) o)) (at parent_rank q xs)) (sym (cond-false (same (procedure_rank p) q) (Some p) None s)))
    (cases_Bool (same (procedure_rank p) q))

pub parents-at : (o : SectionOffset) (ps : List Procedure) → at parent_rank (offset_rank o) (parents ps) ≡ option_map parent_of (last (starts_at o) ps)
parents-at o ps =
    lasts_from (offset_rank o) [] ps (pairwise-none (λ x y. before (parent_rank x) (parent_rank y))) ∙ later-none (option_map parent_of (last (starts_at o) ps))

-- separated code takes from its parent what the parent's row has
pub adopted_parent : (o : SectionOffset) (length k end : ℕ) (q : Option Procedure) → adopted o length k end q ≡ adopted_by o length k end (option_map parent_of q)
adopted_parent o length k end None = refl
adopted_parent o length k end (Some p) = refl

-- one record after the other

pub all_kept_step : (m k : ℕ) (had : List Procedure) (rs : List SymbolRecord) (r : SymbolRecord) → slice_get rs k ≡ Some r → all_kept m k had (drop k rs) ≡ elim (with_kept m k had (kept had k r.symbol)) [ Ok after ↦ all_kept m (k + 1) after (drop (k + 1) rs) | Err e ↦ Err e ]
all_kept_step m k had rs r e = ap (all_kept m k had) (item_drop rs k r e)

ok_is : (a b : List Procedure) → ◌≡◌ {A = Result (List Procedure) Refusal} (Ok a) (Ok b) → a ≡ b
ok_is a b p = cc

ok-err : (a : List Procedure) (e : Refusal) → Err e ≡ Ok a → ⊥
ok-err a e p = let z : ◌≡◌ {A = ℕ} 0 1 = cc in omega arith

-- what is kept stays few
unrefused_few : (m k : ℕ) (had : List Procedure) (p : Procedure) (after : List Procedure) → unless_refused (had ++ p ∷ []) (procedure_refusal m k had p) ≡ Ok after → length (in_order after) ≤ most_procedures
unrefused_few m k had p after =
    elim (ltb top (p.offset.offset + p.length)) as (λ b. unless_refused (had ++ p ∷ []) (or_else (cond b (Some (ProcedureOutside m k)) None) (cond (ltb most_procedures (length (in_order (had ++ p ∷ [])))) (Some (TooManyProcedures m k)) None)) ≡ Ok after → length (in_order after) ≤ most_procedures) [
      | true ↦ λ h. absurd (ok-err after (ProcedureOutside m k) h)
      | false ↦ λ h.
          ⊎_elim
          (λ b. absurd (ok-err after (TooManyProcedures m k) (sym (ap (unless_refused (had ++ p ∷ [])) (cond-true (ltb most_procedures (length (in_order (had ++ p ∷ [])))) (Some (TooManyProcedures m k)) None b)) ∙ h)))
          (λ b.
          subst (λ ps. length (in_order ps) ≤ most_procedures)
          (ok_is (had ++ p ∷ []) after (sym (ap (unless_refused (had ++ p ∷ [])) (cond-false (ltb most_procedures (length (in_order (had ++ p ∷ [])))) (Some (TooManyProcedures m k)) None b)) ∙ h))
          (ltb-false most_procedures (length (in_order (had ++ p ∷ []))) b))
          (cases_Bool (ltb most_procedures (length (in_order (had ++ p ∷ [])))))
    ]

with-kept-few : (m k : ℕ) (had : List Procedure) (o : Option Procedure) (after : List Procedure) → length (in_order had) ≤ most_procedures → with_kept m k had o ≡ Ok after → length (in_order after) ≤ most_procedures
with-kept-few m k had None after few h = subst (λ ps. length (in_order ps) ≤ most_procedures) (ok_is had after h) few
with-kept-few m k had (Some p) after few h = unrefused_few m k had p after h

pub all_kept-few : (m k : ℕ) (had : List Procedure) (rs : List SymbolRecord) (ps : List Procedure) → length (in_order had) ≤ most_procedures → all_kept m k had rs ≡ Ok ps → length (in_order ps) ≤ most_procedures
all_kept-few m k had [] ps few h = subst (λ xs. length (in_order xs) ≤ most_procedures) (ok_is had ps h) few
all_kept-few m k had (r ∷ rs) ps few h =
    (elim (with_kept m k had (kept had k r.symbol)) as (λ w. with_kept m k had (kept had k r.symbol) ≡ w → ◌≡◌ {A = Result (List Procedure) Refusal} (elim w [ Ok after ↦ all_kept m (k + 1) after rs | Err e ↦ Err e ]) (Ok ps) → length (in_order ps) ≤ most_procedures) [
      | Ok after ↦ λ e g. all_kept-few m (k + 1) after rs ps (with-kept-few m k had (kept had k r.symbol) after few e) g
      | Err x ↦ λ e g. absurd (ok-err ps x g)
    ]) refl h

-- what a reading gives was put in order
pub reading-kept : (m : ℕ) (x : Content) (ps : List Procedure) → reading m x ≡ Ok (Some ps) → (qs : List Procedure) × (ps ≡ in_order qs) × (length (in_order qs) ≤ most_procedures)
reading-kept m absent ps h = let z : ◌≡◌ {A = ℕ} 0 1 = cc in absurd (omega arith)
reading-kept m broken ps h = let z : ◌≡◌ {A = ℕ} 0 1 = cc in absurd (omega arith)
reading-kept m (present x) ps h = go x.symbols_end (all_kept m 0 [] x.symbols) refl h
  where
    go : (end : Ending) (w : Result (List Procedure) Refusal) → all_kept m 0 [] x.symbols ≡ w → ended end w ≡ Ok (Some ps) → (qs : List Procedure) × (ps ≡ in_order qs) × (length (in_order qs) ≤ most_procedures)
    go (Ok u) (Ok qs) e g = (qs, cc, all_kept-few m 0 [] x.symbols qs (omega arith) e)
    go (Err code) (Ok qs) e g = let z : ◌≡◌ {A = ℕ} 0 1 = cc in absurd (omega arith)
    go (Ok u) (Err y) e g = let z : ◌≡◌ {A = ℕ} 0 1 = cc in absurd (omega arith)
    go (Err code) (Err y) e g = let z : ◌≡◌ {A = ℕ} 0 1 = cc in absurd (omega arith)

pub reading-rises : (m : ℕ) (x : Content) (ps : List Procedure) → reading m x ≡ Ok (Some ps) → Rises procedure_rank ps
reading-rises m x ps h = let r = reading-kept m x ps h in subst (Rises procedure_rank) (sym r.1) (in_order-rises r.0)

pub reading-few : (m : ℕ) (x : Content) (ps : List Procedure) → reading m x ≡ Ok (Some ps) → length ps ≤ most_procedures
reading-few m x ps h = let r = reading-kept m x ps h in subst (λ qs. length qs ≤ most_procedures) (sym r.1) r.2
