-- Stretches of one row, and those that are put together. Assumes nothing.
use Rattle.std.proofs.Common.{◌≡◌, ℕ, ◌-◌, ◌<◌, ◌≤◌, List, length, get_or, Some, None, Option, IfSome, sym, ap, ◌∙◌, subst, ⊎_elim, arith}
use Rattle.std.specs.Option.{unwrap_or}
use Rattle.std.proofs.lemmas.Bool.{cases_lt}
use Rattle.std.proofs.lemmas.List.{get_or_default}
use Rattle.procedures.specs.declared.row.Procedure.{Procedure}
use Rattle.shelf.specs.declared.stretches.Stretch.{Stretch}
use Rattle.shelf.specs.Stretches.{end_of, Bounds, FirstStretched}

module _ (ps : List Procedure) (k : ℕ) where
  pub one_alone : (p : Procedure) (end : ℕ) → k < length ps → end ≡ end_of (get_or ps k p) → Bounds ps k (record { from = k; end = end })
  one_alone p end within is = record {
    back = omega arith;
    ends = λ j d from upto.
        let at_k : j ≡ k = omega arith in
        subst (λ q. end_of q ≤ end) (get_or_default ps k p d within ∙ ap (λ i. get_or ps i d) (sym at_k)) (omega arith);
  }

  pub or_alone : (o : Option Stretch) (alone : Stretch) → IfSome o (λ s. Bounds ps k s) → Bounds ps k alone → Bounds ps k (unwrap_or o alone)
  or_alone None alone h a = a
  or_alone (Some s) alone h a = h

  -- a row's own stretch, and the two before it, one after the other
  pub joins : (ss : List Stretch) (right left alone : Stretch) → FirstStretched k ps ss → Bounds ps k alone → 1 ≤ k → right ≡ get_or ss (k - 1) right → 1 ≤ right.from → left ≡ get_or ss (right.from - 1) left → (end : ℕ) → alone.from ≡ k → alone.end ≤ end → right.end ≤ end → left.end ≤ end → Bounds ps k (record { from = left.from; end = end })
  joins ss right left alone h a some r more l end own la lr ll =
      let hr : Bounds ps (k - 1) right = subst (λ s. Bounds ps (k - 1) s) (sym r) (h (k - 1) right (omega arith)) in
      let hl : Bounds ps (right.from - 1) left = subst (λ s. Bounds ps (right.from - 1) s) (sym l) (h (right.from - 1) left (let b = hr.back in omega arith)) in
      record {
        back = (let b = hl.back in let c = hr.back in omega arith);
        ends = λ j d from upto.
            ⊎_elim
            (λ in_left. let e = hl.ends j d from (omega arith) in omega arith)
            (λ past.
            ⊎_elim
            (λ in_right. let e = hr.ends j d (omega arith) (omega arith) in omega arith)
            (λ at_k. let e = a.ends j d (omega arith) upto in omega arith)
            (cases_lt j k))
            (cases_lt j right.from);
      }
