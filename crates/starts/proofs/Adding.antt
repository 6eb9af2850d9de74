-- What becomes of a start that is added, from what `insert` promises of any table. Assumes nothing.
use Rattle.std.proofs.Common.{◌≡◌, Bool, true, cond, List, [], ◌∷◌, ◌++◌, length, take, Some, None, Option, ◌∙◌, subst, sym}
use Rattle.order.specs.Placed.{Settled}
use Rattle.order.specs.Rank.{InOrder}
use Rattle.base.specs.Rows.{start_rank, start_meets}
use Rattle.base.specs.declared.context.KnownStart.{KnownStart}
use Rattle.base.specs.declared.refusal.Refusal.{Refusal}
use Rattle.base.specs.declared.refusal.Refusal.TheVariants.{StartTableFull}
use Rattle.base.specs.declared.refusal.Step.{Step}
use Rattle.table.specs.declared.Table.{Table}
use Rattle.building.specs.Outcome.{starts_full}
use Rattle.building.specs.Filling.{Holds}
use Rattle.building.proofs.Filling.{holds-in_order, holds_more, start_answer}

pub start_refused : (cs old : List KnownStart) (t u : Table KnownStart) (start : KnownStart) (step : Step) (came : Bool) (r : Option Refusal) → Holds cs old t.rows.now t.count → (InOrder start_rank (take t.count t.rows.now) → Settled start_rank start_meets t.rows.now t.count start (cond came (Some u.count) None) u.rows.now) → r ≡ cond came None (Some (StartTableFull step)) → r ≡ starts_full (length old) (cs ++ start ∷ []) step
start_refused cs old t u start step came r h outcome answer =
    answer ∙ start_answer cs old t.rows.now t.count u.count start u.rows.now came (StartTableFull step) h (outcome (holds-in_order cs old t.rows.now t.count h))

pub start_added : (cs old : List KnownStart) (t u : Table KnownStart) (start : KnownStart) (came ok : Bool) → Holds cs old t.rows.now t.count → (InOrder start_rank (take t.count t.rows.now) → Settled start_rank start_meets t.rows.now t.count start (cond came (Some u.count) None) u.rows.now) → ok ≡ came → ok ≡ true → Holds (cs ++ start ∷ []) old u.rows.now u.count
start_added cs old t u start came ok h outcome same e =
    holds_more cs old t.rows.now t.count u.count start u.rows.now h
    (subst (λ b. Settled start_rank start_meets t.rows.now t.count start (cond b (Some u.count) None) u.rows.now) (sym same ∙ e) (outcome (holds-in_order cs old t.rows.now t.count h)))
