-- How far a site that closes has added what is uncovered. Assumes nothing.
use Rattle.std.proofs.Common.{◌≡◌, ℕ, ◌≤◌, Bool, true, false, cond, ltb, List, [], ◌∷◌, ◌++◌, map, length, take, drop, Some, None, Option, Ok, Err, refl, sym, ap, subst, ◌∙◌, inl, append_assoc, arith}
use Rattle.std.proofs.Math.Seq.{take-append_seam}
use Rattle.std.proofs.lemmas.List.{append-nil, map-append, length-append, length-take, take_all}
use Rattle.std.proofs.lemmas.Bool.{ltb-true, le-ltb, lt-ltb}
use Rattle.std.specs.List.{list_any}
use Rattle.base.specs.declared.refusal.Refusal.{Refusal}
use Rattle.base.specs.declared.refusal.Refusal.TheVariants.{TooManyRanges}
use Rattle.frames.specs.declared.range.InlineRange.{InlineRange}
use Rattle.frames.specs.declared.range.OpenSite.{OpenSite}
use Rattle.inlining.specs.Stretches.{stretches}
use Rattle.inlining.specs.Ranges.{most_ranges, furthest, added_range, since, fitting, completed}
use Rattle.ranges.specs.Uncovered.{uncovered_at, at_next_depth, FirstStretch}
use Rattle.ranges.proofs.Edges.{past, none_uncovered}
use Rattle.ranges.proofs.Sweep.{Closed, ended, grown, within, failing, kept}

-- what fits, and what does not
pub fits : (m : ℕ) (rs all : List InlineRange) → all ≡ rs → length rs ≤ most_ranges → (Ok rs ≡ fitting m all) × (rs ≡ take most_ranges all)
fits m rs all e l =
    let t : ltb most_ranges (length all) ≡ false = le-ltb most_ranges (length all) (omega (arith, ap length e)) in
    (rw (t, e), sym (take_all most_ranges all (omega (arith, ap length e)) ∙ e))

pub too_many : (m : ℕ) (rs all more : List InlineRange) (r : InlineRange) → all ≡ (rs ++ r ∷ []) ++ more → length rs ≡ most_ranges → (Err (TooManyRanges m) ≡ fitting m all) × (rs ≡ take most_ranges all)
too_many m rs all more r e l =
    let f : all ≡ rs ++ r ∷ more = e ∙ append_assoc rs (r ∷ []) more in
    let t : ltb most_ranges (length all) ≡ true = lt-ltb most_ranges (length all) (omega (arith, ap length f, length-append rs (r ∷ more))) in
    (rw t, sym (ap (λ n. take n all) (sym l) ∙ ap (take (length rs)) f ∙ take-append_seam rs (r ∷ more)))

pub fitted : (m : ℕ) (rs all : List InlineRange) → Ok rs ≡ fitting m all → rs ≡ all
fitted m rs all e = elim (ltb most_ranges (length all)) as (λ b. Ok rs ≡ cond b (Err (TooManyRanges m)) (Ok all) → rs ≡ all) [ true ↦ λ f. cc | false ↦ λ f. cc ] e

refused : (m : ℕ) (why : Refusal) (rs : List InlineRange) (r : InlineRange) → Err why ≡ fitting m (rs ++ r ∷ []) → (why ≡ TooManyRanges m) × (most_ranges ≤ length rs)
refused m why rs r e =
    let long = length-append rs (r ∷ []) in
    elim (ltb most_ranges (length (rs ++ r ∷ []))) as (λ b. ltb most_ranges (length (rs ++ r ∷ [])) ≡ b → Err why ≡ cond b (Err (TooManyRanges m)) (Ok (rs ++ r ∷ [])) → (why ≡ TooManyRanges m) × (most_ranges ≤ length rs)) [
      | true ↦ λ f g. (cc, omega (arith, ltb-true most_ranges (length (rs ++ r ∷ [])) f))
      | false ↦ λ f g. cc
    ] refl e

module _ (depth : ℕ) (s : OpenSite) (old : List InlineRange) where
  abbrev pub test : ℕ → Bool
  test = uncovered_at depth (since s old)

  -- the stretches below a place were added, and no other begins there
  pub record Swept (now : List InlineRange) (place : ℕ) : Type 0 where
    pub added : now ≡ old ++ map (added_range depth s) (stretches test place)
    pub closed : Closed test place
    pub inside : place ≤ furthest (since s old)

  pub swept_none : Swept old 0
  swept_none = record { added = sym (append-nil old); closed = inl refl; inside = omega arith }

  module _ {now : List InlineRange} {place : ℕ} (w : Swept now place) where
    pub front : take (length old) now ≡ old
    front = ap (take (length old)) w.added ∙ take-append_seam old (map (added_range depth s) (stretches test place))

    pub swept_more : (start end : ℕ) → FirstStretch test place (Some (start, end)) → Swept (now ++ added_range depth s (record { from = start; upto = end }) ∷ []) end
    swept_more start end found = record {
      added =
          ap (λ rs. rs ++ added_range depth s (record { from = start; upto = end }) ∷ []) w.added
          ∙ append_assoc old (map (added_range depth s) (stretches test place)) (added_range depth s (record { from = start; upto = end }) ∷ [])
          ∙ ap (λ rs. old ++ rs) (sym (map-append (added_range depth s) (stretches test place) (record { from = start; upto = end } ∷ [])) ∙ ap (map (added_range depth s)) (sym (grown test w.closed found)));
      closed = ended test w.closed found;
      inside = within test w.closed found (furthest (since s old)) (past (since s old) depth);
    }

    pub swept_part : (more : List InlineRange) × (completed depth s old ≡ now ++ more)
    swept_part =
        let k = kept test place (furthest (since s old)) w.closed w.inside in
        (map (added_range depth s) k.0, ap (λ ss. old ++ map (added_range depth s) ss) k.1 ∙ ap (λ rs. old ++ rs) (map-append (added_range depth s) (stretches test place) k.0) ∙ sym (append_assoc old (map (added_range depth s) (stretches test place)) (map (added_range depth s) k.0)) ∙ ap (λ rs. rs ++ map (added_range depth s) k.0) (sym w.added))

    pub swept_whole : FirstStretch test place None → completed depth s old ≡ now
    swept_whole none = ap (λ ss. old ++ map (added_range depth s) ss) (failing test place (furthest (since s old)) w.inside (λ p l m. none p l)) ∙ sym w.added

    -- what is looked at between the old and the new ranges
    pub looked : (upto : ℕ) (rs : List InlineRange) → upto ≡ length old → (upto ≤ length now → rs ≡ drop s.from (take upto now)) → rs ≡ since s old
    looked upto rs e f =
        let l : length old ≤ length now = omega (arith, length-take (length old) now, ap length front) in
        f (omega arith) ∙ ap (λ n. drop s.from (take n now)) e ∙ ap (drop s.from) front

    pub seen : (upto : ℕ) (rs : List InlineRange) → upto ≡ length old → (upto ≤ length now → rs ≡ drop s.from (take upto now)) → (o : Option (ℕ × ℕ)) → FirstStretch (uncovered_at depth rs) place o → FirstStretch test place o
    seen upto rs e f o found = subst (λ xs. FirstStretch (uncovered_at depth xs) place o) (looked upto rs e f) found

  module _ {now : List InlineRange} {place : ℕ} (w : Swept now place) where
    -- a range that is one too many ends it
    pub swept_refused : (m : ℕ) (why : Refusal) (start end : ℕ) → FirstStretch test place (Some (start, end)) → length now ≤ most_ranges → Err why ≡ fitting m (now ++ added_range depth s (record { from = start; upto = end }) ∷ []) → (Err why ≡ fitting m (completed depth s old)) × (now ≡ take most_ranges (completed depth s old))
    swept_refused m why start end found few e =
        let part = swept_part (swept_more w start end found) in
        let r = refused m why now (added_range depth s (record { from = start; upto = end })) e in
        let over = too_many m now (completed depth s old) part.0 (added_range depth s (record { from = start; upto = end })) part.1 (omega (arith, r.1)) in
        (ap Err r.0 ∙ over.0, over.1)

  -- nothing is uncovered
  pub swept_nothing : list_any (at_next_depth depth) (since s old) ≡ false → completed depth s old ≡ old
  swept_nothing none = swept_whole swept_none (λ p l. none_uncovered depth p (since s old) none)
