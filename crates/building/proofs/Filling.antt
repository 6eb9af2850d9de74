-- One row more in a table that is being filled. Assumes nothing.
use Rattle.std.proofs.Common.{◌≡◌, ℕ, suc, ◌+◌, ◌-◌, ◌<◌, ◌≤◌, Bool, true, false, cond, not, ltb, List, [], ◌∷◌, ◌++◌, length, take, drop, Some, None, sym, refl, ap, ◌∙◌, subst, arith}
use Rattle.std.proofs.lemmas.List.{take_at, drop_at, length-append, length-drop, length-take-le, drop-drop}
use Rattle.std.proofs.lemmas.Bool.{cond-true, cond-false, le-ltb, lt-ltb}
use Rattle.order.specs.declared.Meeting.{Meeting}
use Rattle.order.specs.Rank.{before, same, InOrder}
use Rattle.order.specs.Placed.{placed, Settled}
use Rattle.order.proofs.Rows.{pairwise-none, in_order-placed, in_order_from_rises, length-placed_both, tally-placed_both, length-placed_least}
use Rattle.base.specs.Rows.{start_rank, start_meets, contribution_rank, contribution_meets}
use Rattle.base.specs.declared.context.KnownStart.{KnownStart}
use Rattle.base.specs.declared.context.Contribution.{Contribution}
use Rattle.base.specs.declared.refusal.Refusal.{Refusal}
use Rattle.building.specs.Starts.{Known, offset_count}
use Rattle.building.specs.Blocks.{Stands}
use Rattle.building.specs.Filling.{Untouched, Holds, Filed}
use Rattle.building.proofs.Starts.{known-none, known_more, placed-count}

pub untouched-none : {X : Type 0} (old : List X) → Untouched old old 0
untouched-none old = record { few = omega arith; long = refl; rest = refl }

module _ {X : Type 0} (rank : X → List ℕ) (meets : X → X → Meeting) (old rows : List X) (count n : ℕ) (r : X) (rows' : List X) (u : Untouched old rows count) (s : Settled rank meets rows count r (Some n) rows') where
  pub used : take n rows' ≡ placed rank meets r (take count rows)
  used = ap (take n) s.2 ∙ take_at _ _ n (sym s.0)

  past : drop n rows' ≡ drop n rows
  past = ap (drop n) s.2 ∙ drop_at (placed rank meets r (take count rows)) (drop n rows) n (sym s.0)

  grows : count ≤ n
  grows =
      let l = length-placed_least rank meets r (take count rows) in
      let k = length-take-le count rows u.few in
      let e = s.0 in
      omega arith

  pub untouched-more : Untouched old rows' n
  untouched-more =
      let g = grows in
      let long : length rows' ≡ length rows = ap length s.2 ∙ length-append (placed rank meets r (take count rows)) (drop n rows) ∙ (let d = length-drop n rows in let e = s.0 in let f = s.1 in omega arith) in
      let back : count + (n - count) ≡ n = omega arith in
      record {
        few = (let f = s.1 in omega arith);
        long = long ∙ u.long;
        rest = past ∙ sym (drop-drop (n - count) count rows ∙ ap (λ k. drop k rows) back) ∙ ap (drop (n - count)) u.rest ∙ drop-drop (n - count) count old ∙ ap (λ k. drop k old) back;
      }

pub holds-none : (old : List KnownStart) → Holds [] old old 0
holds-none old = record { known = known-none; counted = refl; untouched = untouched-none old }

pub holds-in_order : (cs old rows : List KnownStart) (count : ℕ) → Holds cs old rows count → InOrder start_rank (take count rows)
holds-in_order cs old rows count h = in_order_from_rises start_rank (take count rows) h.known.rises

holds-length : (cs old rows : List KnownStart) (count : ℕ) → Holds cs old rows count → length (take count rows) ≡ offset_count cs
holds-length cs old rows count h = length-take-le count rows h.untouched.few ∙ h.counted

pub holds_more : (cs old rows : List KnownStart) (count n : ℕ) (c : KnownStart) (rows' : List KnownStart) → Holds cs old rows count → Settled start_rank start_meets rows count c (Some n) rows' → Holds (cs ++ c ∷ []) old rows' n
holds_more cs old rows count n c rows' h s = record {
  known = subst (Known (cs ++ c ∷ [])) (sym (used start_rank start_meets old rows count n c rows' h.untouched s)) (known_more cs (take count rows) c h.known);
  counted = s.0 ∙ placed-count cs (take count rows) c h.known (holds-length cs old rows count h);
  untouched = untouched-more start_rank start_meets old rows count n c rows' h.untouched s;
}

pub holds_full : (cs old rows : List KnownStart) (count : ℕ) (c : KnownStart) (rows' : List KnownStart) → Holds cs old rows count → Settled start_rank start_meets rows count c None rows' → length old < offset_count (cs ++ c ∷ [])
holds_full cs old rows count c rows' h s =
    let e = placed-count cs (take count rows) c h.known (holds-length cs old rows count h) in
    let f = s.0 in
    let l = h.untouched.long in
    omega arith

pub stands-none : Stands [] []
stands-none = record { in_order = pairwise-none (λ x y. not (before (contribution_rank y) (contribution_rank x))); as_often = λ c. refl }

pub stands-more : (bs xs : List Contribution) (b : Contribution) → Stands bs xs → Stands (b ∷ bs) (placed contribution_rank contribution_meets b xs)
stands-more bs xs b h = record {
  in_order = in_order-placed contribution_rank contribution_meets b xs h.in_order;
  as_often = λ c. tally-placed_both contribution_rank contribution_meets (λ _ _. refl) (contribution_rank c) b xs ∙ ap (λ n. cond (same (contribution_rank b) (contribution_rank c)) 1 0 + n) (h.as_often c);
}

pub filed_none : (old : List Contribution) → Filed [] old old 0
filed_none old = record { stands = stands-none; counted = refl; untouched = untouched-none old }

pub filed_more : (bs old rows : List Contribution) (count n : ℕ) (b : Contribution) (rows' : List Contribution) → Filed bs old rows count → Settled contribution_rank contribution_meets rows count b (Some n) rows' → Filed (b ∷ bs) old rows' n
filed_more bs old rows count n b rows' h s = record {
  stands = subst (Stands (b ∷ bs)) (sym (used contribution_rank contribution_meets old rows count n b rows' h.untouched s)) (stands-more bs (take count rows) b h.stands);
  counted = s.0 ∙ length-placed_both contribution_rank contribution_meets (λ _ _. refl) b (take count rows) ∙ ap suc (length-take-le count rows h.untouched.few ∙ h.counted);
  untouched = untouched-more contribution_rank contribution_meets old rows count n b rows' h.untouched s;
}

pub filed_full : (bs old rows : List Contribution) (count : ℕ) (b : Contribution) (rows' : List Contribution) → Filed bs old rows count → Settled contribution_rank contribution_meets rows count b None rows' → length old < length (b ∷ bs)
filed_full bs old rows count b rows' h s =
    let e = length-placed_both contribution_rank contribution_meets (λ _ _. refl) b (take count rows) in
    let k = length-take-le count rows h.untouched.few in
    let m = h.counted in
    let f = s.0 in
    let l = h.untouched.long in
    omega arith

-- an insertion, and the answer that goes with it
pub start_room : (cs old rows : List KnownStart) (count n : ℕ) (c : KnownStart) (rows' : List KnownStart) (e : Refusal) → Holds cs old rows count → Settled start_rank start_meets rows count c (Some n) rows' → None ≡ cond (ltb (length old) (offset_count (cs ++ c ∷ []))) (Some e) None
start_room cs old rows count n c rows' e h s =
    let m = holds_more cs old rows count n c rows' h s in
    let a = m.counted in
    let f = m.untouched.few in
    let l = m.untouched.long in
    sym (cond-false _ _ _ (le-ltb (length old) (offset_count (cs ++ c ∷ [])) (omega arith)))

pub start_full : (cs old rows : List KnownStart) (count : ℕ) (c : KnownStart) (rows' : List KnownStart) (e : Refusal) → Holds cs old rows count → Settled start_rank start_meets rows count c None rows' → Some e ≡ cond (ltb (length old) (offset_count (cs ++ c ∷ []))) (Some e) None
start_full cs old rows count c rows' e h s =
    sym (cond-true _ _ _ (lt-ltb (length old) (offset_count (cs ++ c ∷ [])) (holds_full cs old rows count c rows' h s)))

pub block_room : (bs old rows : List Contribution) (count n : ℕ) (b : Contribution) (rows' : List Contribution) (e : Refusal) → Filed bs old rows count → Settled contribution_rank contribution_meets rows count b (Some n) rows' → None ≡ cond (ltb (length old) (length (b ∷ bs))) (Some e) None
block_room bs old rows count n b rows' e h s =
    let m = filed_more bs old rows count n b rows' h s in
    let a = m.counted in
    let f = m.untouched.few in
    let l = m.untouched.long in
    sym (cond-false _ _ _ (le-ltb (length old) (length (b ∷ bs)) (omega arith)))

pub block_full : (bs old rows : List Contribution) (count : ℕ) (b : Contribution) (rows' : List Contribution) (e : Refusal) → Filed bs old rows count → Settled contribution_rank contribution_meets rows count b None rows' → Some e ≡ cond (ltb (length old) (length (b ∷ bs))) (Some e) None
block_full bs old rows count b rows' e h s =
    sym (cond-true _ _ _ (lt-ltb (length old) (length (b ∷ bs)) (filed_full bs old rows count b rows' h s)))

-- an insertion that came through or did not, and the answer that goes with it
pub start_answer : (cs old rows : List KnownStart) (count n : ℕ) (c : KnownStart) (rows' : List KnownStart) (b : Bool) (e : Refusal) → Holds cs old rows count → Settled start_rank start_meets rows count c (cond b (Some n) None) rows' → cond b None (Some e) ≡ cond (ltb (length old) (offset_count (cs ++ c ∷ []))) (Some e) None
start_answer cs old rows count n c rows' true e h s = start_room cs old rows count n c rows' e h s
start_answer cs old rows count n c rows' false e h s = start_full cs old rows count c rows' e h s

pub block_answer : (bs old rows : List Contribution) (count n : ℕ) (b : Contribution) (rows' : List Contribution) (o : Bool) (e : Refusal) → Filed bs old rows count → Settled contribution_rank contribution_meets rows count b (cond o (Some n) None) rows' → cond o None (Some e) ≡ cond (ltb (length old) (length (b ∷ bs))) (Some e) None
block_answer bs old rows count n b rows' true e h s = block_room bs old rows count n b rows' e h s
block_answer bs old rows count n b rows' false e h s = block_full bs old rows count b rows' e h s

-- a table over rows that it has not touched yet
pub holds_start : (old rows : List KnownStart) (count : ℕ) → rows ≡ old → count ≡ 0 → Holds [] old rows count
holds_start old rows count e z = subst (λ l. Holds [] old l count) (sym e) (subst (Holds [] old old) (sym z) (holds-none old))

pub filed_start : (old rows : List Contribution) (count : ℕ) → rows ≡ old → count ≡ 0 → Filed [] old rows count
filed_start old rows count e z = subst (λ l. Filed [] old l count) (sym e) (subst (Filed [] old old) (sym z) (filed_none old))
