-- What a search for the procedure of a place leaves out. Assumes nothing.
use Rattle.std.proofs.Common.{◌≡◌, ℕ, ◌+◌, ◌-◌, ◌<◌, ◌≤◌, true, false, List, length, get_or, take, drop, Some, None, sym, ap, ◌∙◌, subst, arith}
use Rattle.std.proofs.Math.Seq.{take-add}
use Rattle.std.proofs.lemmas.Bool.Decides.{nat_tests}
use Rattle.std.proofs.lemmas.List.{get_or_default, get_or-drop, get_or-take, length-take-le, length-drop}
use Rattle.order.specs.Rank.{later}
use Rattle.base.specs.declared.image.SectionOffset.{SectionOffset}
use Rattle.procedures.specs.declared.row.Procedure.{Procedure}
use Rattle.lookup.specs.Finding.{covers, chosen}
use Rattle.lookup.proofs.Choosing.{last-at, last_never, last-append}
use Rattle.shelf.specs.declared.stretches.Stretch.{Stretch}
use Rattle.shelf.specs.Stretches.{along, end_of, Bounds}

-- what ends at or below a place, by sections one after the other, does not contain it
ends_before : (o : SectionOffset) (p : Procedure) → end_of p ≤ along o.section o.offset → covers o p ≡ false
ends_before o p h = grind (arith, nat_tests)

module _ (o : SectionOffset) (ps : List Procedure) where
  -- rows that do not contain the place may be left out
  passed : (from n : ℕ) → from ≤ n → n ≤ length ps → ((j : ℕ) (d : Procedure) → from ≤ j → j < n → covers o (get_or ps j d) ≡ false) → chosen o (take from ps) ≡ chosen o (take n ps)
  passed from n l m h =
      let more = take (n - from) (drop from ps) in
      let long : length more ≡ n - from = length-take-le (n - from) (drop from ps) (let d = length-drop from ps in omega arith) in
      let none : chosen o more ≡ None =
      last_never (covers o) more (λ j d k.
      subst (λ p. covers o p ≡ false) (sym (get_or-take (n - from) (drop from ps) j d (omega arith) ∙ get_or-drop from ps j d)) (h (from + j) d (omega arith) (omega arith))) in
      let whole : from + (n - from) ≡ n = omega arith in
      sym (ap (λ i. chosen o (take i ps)) (sym whole) ∙ ap (chosen o) (take-add from (n - from) ps) ∙ last-append (covers o) (take from ps) more ∙ ap (λ q. later q (chosen o (take from ps))) none)

  module _ (k n : ℕ) (within : n ≤ length ps) (next : n ≡ k + 1) where
    pub stretch_passed : (s : Stretch) → Bounds ps k s → s.end ≤ along o.section o.offset → chosen o (take s.from ps) ≡ chosen o (take n ps)
    stretch_passed s b e =
        let back = b.back in
        passed s.from n (omega arith) within (λ j d from below. ends_before o (get_or ps j d) (let ends = b.ends j d from (omega arith) in omega arith))

    module _ (d : Procedure) where
      pub row_passed : covers o (get_or ps k d) ≡ false → chosen o (take k ps) ≡ chosen o (take n ps)
      row_passed c =
          passed k n (omega arith) within (λ j e from below.
          let at_k : k ≡ j = omega arith in
          subst (λ p. covers o p ≡ false) (get_or_default ps k d e (omega arith) ∙ ap (λ i. get_or ps i e) at_k) c)

      pub row_found : covers o (get_or ps k d) ≡ true → Some (get_or ps k d) ≡ chosen o (take n ps)
      row_found c =
          let long : length (take n ps) ≡ n = length-take-le n ps within in
          let same : get_or ps k d ≡ get_or (take n ps) k (get_or ps k d) =
          get_or_default ps k d (get_or ps k d) (omega arith) ∙ sym (get_or-take n ps k (get_or ps k d) (omega arith)) in
          sym (last-at (covers o) (take n ps) k (get_or ps k d) (omega arith) same c (λ j e m l. absurd (omega arith)))
