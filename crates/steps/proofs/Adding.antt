-- What becomes of a block that is added, from what `insert` promises of any table. Assumes nothing.
use Rattle.std.proofs.Common.{◌≡◌, Bool, true, cond, List, ◌∷◌, length, take, Some, None, Option, ◌∙◌, subst, sym}
use Rattle.order.specs.Placed.{Settled}
use Rattle.order.specs.Rank.{InOrder}
use Rattle.base.specs.Rows.{contribution_rank, contribution_meets}
use Rattle.base.specs.declared.context.Contribution.{Contribution}
use Rattle.base.specs.declared.refusal.Refusal.{Refusal}
use Rattle.base.specs.declared.refusal.Refusal.TheVariants.{ContributionTableFull}
use Rattle.table.specs.declared.Table.{Table}
use Rattle.building.specs.Outcome.{blocks_full}
use Rattle.building.specs.Filling.{Filed}
use Rattle.building.proofs.Filling.{filed_more, block_answer}

pub block_refused : (bs old : List Contribution) (t u : Table Contribution) (block : Contribution) (came : Bool) (r : Option Refusal) → Filed bs old t.rows.now t.count → (InOrder contribution_rank (take t.count t.rows.now) → Settled contribution_rank contribution_meets t.rows.now t.count block (cond came (Some u.count) None) u.rows.now) → r ≡ cond came None (Some ContributionTableFull) → r ≡ blocks_full (length old) (block ∷ bs)
block_refused bs old t u block came r h outcome answer =
    answer ∙ block_answer bs old t.rows.now t.count u.count block u.rows.now came ContributionTableFull h (outcome h.stands.in_order)

pub block_added : (bs old : List Contribution) (t u : Table Contribution) (block : Contribution) (came ok : Bool) → Filed bs old t.rows.now t.count → (InOrder contribution_rank (take t.count t.rows.now) → Settled contribution_rank contribution_meets t.rows.now t.count block (cond came (Some u.count) None) u.rows.now) → ok ≡ came → ok ≡ true → Filed (block ∷ bs) old u.rows.now u.count
block_added bs old t u block came ok h outcome same e =
    filed_more bs old t.rows.now t.count u.count block u.rows.now h
    (subst (λ b. Settled contribution_rank contribution_meets t.rows.now t.count block (cond b (Some u.count) None) u.rows.now) (sym same ∙ e) (outcome h.stands.in_order))
