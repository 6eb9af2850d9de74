-- Between two edges of ranges the same places are covered. Assumes nothing.
use Rattle.std.proofs.Common.{◌≡◌, ℕ, ◌+◌, ◌<◌, ◌≤◌, Bool, true, false, cond, not, ◌||◌, ◌&&◌, min, max, List, [], ◌∷◌, Some, None, Option, refl, sym, ◌∙◌, ◌⊎◌, inl, inr, ⊎_elim, arith}
use mathlib.Core.Bool.{beq}
use Rattle.std.specs.List.{list_any, filter_map, reduce, fold, cons_option}
use Rattle.order.specs.Rank.{inside}
use Rattle.frames.specs.declared.range.InlineRange.{InlineRange}
use Rattle.inlining.specs.Ranges.{over, covered, furthest}
use Rattle.ranges.specs.Uncovered.{uncovered_at, at_next_depth, end_over, edge_above, Steady, First}
use Rattle.std.proofs.lemmas.Bool.{cases_lt}
use Rattle.std.proofs.lemmas.Bool.Decides.{nat_tests}

-- between edges a range contains all places, or none
inside_none : (place p : ℕ) (r : InlineRange) → edge_above place r ≡ None → place ≤ p → inside r.start r.end p ≡ inside r.start r.end place
inside_none place p r e l = grind (arith, nat_tests)

inside_below : (place p x : ℕ) (r : InlineRange) → edge_above place r ≡ Some x → place ≤ p → p < x → inside r.start r.end p ≡ inside r.start r.end place
inside_below place p x r e l m = grind (arith, nat_tests)

edge_higher : (place x : ℕ) (r : InlineRange) → edge_above place r ≡ Some x → place < x
edge_higher place x r e = grind (arith, nat_tests)

covered_alike : (depth place p : ℕ) (r : InlineRange) (rs : List InlineRange) → inside r.start r.end p ≡ inside r.start r.end place → covered depth p rs ≡ covered depth place rs → covered depth p (r ∷ rs) ≡ covered depth place (r ∷ rs)
covered_alike depth place p r rs e f = cc

-- from a place up to an edge, the same depths cover all places as cover that one
record Alike (place edge : ℕ) (rs : List InlineRange) : Type 0 where
  pub above : place < edge
  pub alike : (depth p : ℕ) → place ≤ p → p < edge → covered depth p rs ≡ covered depth place rs

alike_fold : (place : ℕ) (rs : List InlineRange) (a : ℕ) → place < a → (fold min a (filter_map (edge_above place) rs) ≤ a) × Alike place (fold min a (filter_map (edge_above place) rs)) rs
alike_fold place [] a l = (omega arith, record { above = l; alike = λ depth p m n. refl })
alike_fold place (r ∷ rs) a l =
    elim (edge_above place r) as (λ o. edge_above place r ≡ o → (fold min a (cons_option o (filter_map (edge_above place) rs)) ≤ a) × Alike place (fold min a (cons_option o (filter_map (edge_above place) rs))) (r ∷ rs)) [
      | None ↦ λ e.
          let s = alike_fold place rs a l in
          (s.0, record { above = s.1.above; alike = λ depth p m n. covered_alike depth place p r rs (inside_none place p r e m) (s.1.alike depth p m n) })
      | Some x ↦ λ e.
          let h = edge_higher place x r e in
          let s = alike_fold place rs (min a x) (omega arith) in
          (omega (arith, s.0), record { above = s.1.above; alike = λ depth p m n. covered_alike depth place p r rs (inside_below place p x r e m (omega (arith, s.0))) (s.1.alike depth p m n) })
    ] refl

-- without an edge above a place, all places from it on are covered alike
alike_none : (place : ℕ) (rs : List InlineRange) → reduce min (filter_map (edge_above place) rs) ≡ None → (depth p : ℕ) → place ≤ p → covered depth p rs ≡ covered depth place rs
alike_none place [] e depth p l = refl
alike_none place (r ∷ rs) e depth p l =
    elim (edge_above place r) as (λ o. edge_above place r ≡ o → reduce min (cons_option o (filter_map (edge_above place) rs)) ≡ None → covered depth p (r ∷ rs) ≡ covered depth place (r ∷ rs)) [
      | None ↦ λ f g. covered_alike depth place p r rs (inside_none place p r f l) (alike_none place rs g depth p l)
      | Some x ↦ λ f g. cc
    ] refl e

alike_edge : (place edge : ℕ) (rs : List InlineRange) → reduce min (filter_map (edge_above place) rs) ≡ Some edge → Alike place edge rs
alike_edge place edge [] e = cc
alike_edge place edge (r ∷ rs) e =
    elim (edge_above place r) as (λ o. edge_above place r ≡ o → reduce min (cons_option o (filter_map (edge_above place) rs)) ≡ Some edge → Alike place edge (r ∷ rs)) [
      | None ↦ λ f g.
          let s = alike_edge place edge rs g in
          record { above = s.above; alike = λ depth p m n. covered_alike depth place p r rs (inside_none place p r f m) (s.alike depth p m n) }
      | Some x ↦ λ f g.
          let h = edge_higher place x r f in
          let s = alike_fold place rs x h in
          let same : fold min x (filter_map (edge_above place) rs) ≡ edge = cc in
          record {
            above = omega (arith, s.1.above);
            alike = λ depth p m n. covered_alike depth place p r rs (inside_below place p x r f m (omega (arith, s.0))) (s.1.alike depth p m (omega arith));
          }
    ] refl e

-- past all ends nothing is covered
furthest_upto : (rs : List InlineRange) (n : ℕ) → n ≤ fold (λ m r. max m r.end) n rs
furthest_upto [] n = omega arith
furthest_upto (r ∷ rs) n = let h = furthest_upto rs (max n r.end) in omega (arith, h)

not_over : (depth p : ℕ) (r : InlineRange) → r.end ≤ p → over depth p r ≡ false
not_over depth p r l = grind (arith, nat_tests)

past_from : (rs : List InlineRange) (n depth p : ℕ) → fold (λ m r. max m r.end) n rs ≤ p → covered depth p rs ≡ false
past_from [] n depth p l = refl
past_from (r ∷ rs) n depth p l =
    let h = furthest_upto rs (max n r.end) in
    let e = not_over depth p r (omega (arith, h, l)) in
    let f = past_from rs (max n r.end) depth p l in
    cc

pub past : (rs : List InlineRange) (depth p : ℕ) → furthest rs ≤ p → uncovered_at depth rs p ≡ false
past rs depth p l = let e = past_from rs 0 (depth + 1) p l in rw e

-- without ranges at the next depth nothing is uncovered
not_over_deeper : (depth p : ℕ) (r : InlineRange) → at_next_depth depth r ≡ false → over (depth + 1) p r ≡ false
not_over_deeper depth p r e = rw e

none_covered : (depth p : ℕ) (rs : List InlineRange) → list_any (at_next_depth depth) rs ≡ false → covered (depth + 1) p rs ≡ false
none_covered depth p [] e = refl
none_covered depth p (r ∷ rs) e =
    elim (at_next_depth depth r) as (λ b. at_next_depth depth r ≡ b → (b || list_any (at_next_depth depth) rs) ≡ false → covered (depth + 1) p (r ∷ rs) ≡ false) [
      | true ↦ λ f g. cc
      | false ↦ λ f g. let h = not_over_deeper depth p r f in let i = none_covered depth p rs g in cc
    ] refl e

pub none_uncovered : (depth p : ℕ) (rs : List InlineRange) → list_any (at_next_depth depth) rs ≡ false → uncovered_at depth rs p ≡ false
none_uncovered depth p rs e = let f = none_covered depth p rs e in rw f

uncovered_same : (depth place p : ℕ) (rs : List InlineRange) → ((d : ℕ) → covered d p rs ≡ covered d place rs) → uncovered_at depth rs p ≡ uncovered_at depth rs place
uncovered_same depth place p rs alike = let e = alike (depth + 1) in let f = alike depth in cc

pub steady_edge : (depth place : ℕ) (rs : List InlineRange) (o : Option ℕ) → reduce min (filter_map (edge_above place) rs) ≡ o → Steady (uncovered_at depth rs) place o
steady_edge depth place rs None e = λ p l. uncovered_same depth place p rs (λ d. alike_none place rs e d p l)
steady_edge depth place rs (Some edge) e =
    let s = alike_edge place edge rs e in
    (s.above, λ p l m. uncovered_same depth place p rs (λ d. s.alike d p l m))

-- a range over a place contains all from there up to its end
over_on : (depth place p : ℕ) (r : InlineRange) → over depth place r ≡ true → place ≤ p → p < r.end → over depth p r ≡ true
over_on depth place p r e l m = grind (arith, nat_tests)

over_end : (depth place : ℕ) (r : InlineRange) → over depth place r ≡ true → place < r.end
over_end depth place r e = grind (arith, nat_tests)

covered_more : (depth p : ℕ) (r : InlineRange) (rs : List InlineRange) → covered depth p rs ≡ true → covered depth p (r ∷ rs) ≡ true
covered_more depth p r rs c = elim (over depth p r) as (λ b. (b || covered depth p rs) ≡ true) [ true ↦ refl | false ↦ c ]

upto_max : (ns : List ℕ) (a : ℕ) → a ≤ fold max a ns
upto_max [] a = omega arith
upto_max (n ∷ ns) a = let h = upto_max ns (max a n) in omega arith

-- up to the furthest end of those over a place all are covered
covered_fold : (depth place p : ℕ) (rs : List InlineRange) (a : ℕ) → place ≤ p → p < fold max a (filter_map (end_over depth place) rs) → (p < a) ⊎ (covered depth p rs ≡ true)
covered_fold depth place p [] a l m = inl m
covered_fold depth place p (r ∷ rs) a l m =
    elim (over depth place r) as (λ b. over depth place r ≡ b → p < fold max a (cons_option (cond b (Some r.end) None) (filter_map (end_over depth place) rs)) → (p < a) ⊎ (covered depth p (r ∷ rs) ≡ true)) [
      | true ↦ λ e n.
          ⊎_elim (λ k. ⊎_elim (λ h. inl h) (λ h. let t = over_on depth place p r e l (omega arith) in inr (rw t)) (cases_lt p a))
          (λ c. inr (covered_more depth p r rs c))
          (covered_fold depth place p rs (max a r.end) l n)
      | false ↦ λ e n. ⊎_elim (λ k. inl k) (λ c. inr (covered_more depth p r rs c)) (covered_fold depth place p rs a l n)
    ] refl m

covered_to : (depth place end : ℕ) (rs : List InlineRange) → reduce max (filter_map (end_over depth place) rs) ≡ Some end → (place < end) × ((p : ℕ) → place ≤ p → p < end → covered depth p rs ≡ true)
covered_to depth place end [] e = cc
covered_to depth place end (r ∷ rs) e =
    elim (over depth place r) as (λ b. over depth place r ≡ b → reduce max (cons_option (cond b (Some r.end) None) (filter_map (end_over depth place) rs)) ≡ Some end → (place < end) × ((p : ℕ) → place ≤ p → p < end → covered depth p (r ∷ rs) ≡ true)) [
      | true ↦ λ f g.
          let same : fold max r.end (filter_map (end_over depth place) rs) ≡ end = cc in
          let up = upto_max (filter_map (end_over depth place) rs) r.end in
          let far = over_end depth place r f in
          (omega arith, λ p l m. ⊎_elim (λ h. let t = over_on depth place p r f l h in rw t) (λ c. covered_more depth p r rs c) (covered_fold depth place p rs r.end l (omega arith)))
      | false ↦ λ f g. let h = covered_to depth place end rs g in (h.0, λ p l m. covered_more depth p r rs (h.1 p l m))
    ] refl e

pub steady_covered : (depth place end : ℕ) (rs : List InlineRange) → reduce max (filter_map (end_over depth place) rs) ≡ Some end → Steady (uncovered_at depth rs) place (Some end)
steady_covered depth place end rs e =
    let c = covered_to depth place end rs e in
    (c.0, λ p l m. let f = c.1 p l m in let g = c.1 place (omega arith) (omega (arith, c.0)) in none p f ∙ sym (none place g))
  where
    none : (p : ℕ) → covered depth p rs ≡ true → uncovered_at depth rs p ≡ false
    none p f = elim (covered (depth + 1) p rs) as (λ b. (b && not (covered depth p rs)) ≡ false) [ true ↦ rw f | false ↦ refl ]

pub differs : (a b : Bool) → not (beq a b) ≡ true → a ≡ not b
differs true true e = sym e
differs true false e = refl
differs false true e = refl
differs false false e = cc

-- a search for the first place at which a test gives an answer has come to a place
module _ (test : ℕ → Bool) (from : ℕ) (answer : Bool) {place : ℕ} (passed : (p : ℕ) → from ≤ p → p < place → test p ≡ not answer) (here : test place ≡ not answer) where
  pub seek_more : (next : ℕ) → Steady test place (Some next) → (p : ℕ) → from ≤ p → p < next → test p ≡ not answer
  seek_more next s p l m = ⊎_elim (λ n. passed p l n) (λ n. s.1 p n m ∙ here) (cases_lt p place)

  pub seek_end : Steady test place None → First test answer from None
  seek_end s p l = ⊎_elim (λ n. passed p l n) (λ n. s p n ∙ here) (cases_lt p place)

-- a stretch ends
pub no_end : (depth start : ℕ) (rs : List InlineRange) → First (uncovered_at depth rs) false start None → ⊥
no_end depth start rs f =
    let p = max start (furthest rs) in
    let t = f p (omega arith) in
    let u = past rs depth p (omega arith) in
    cc
