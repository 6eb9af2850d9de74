use Rattle.std.proofs.Common.{rules, ◌≡◌, length, take, filter, sym, ap, ◌∙◌, subst}
use Rattle.base.specs.Rows.{start_rank, named}
use Rattle.order.specs.Rank.{Rises, Pairwise}
use Rattle.building.specs.Blocks.{apart}
use Rattle.building.specs.Outcome.{all_kept}
use Rattle.building.specs.Filling.{Filled}
use Rattle.building.proofs.Filling.{holds-in_order, holds_start, filed_start}
use Rattle.building.proofs.Outcomes.{filled-outcome, one_outcome}
use Rattle.building.proofs.Runs.{blocks_are_runs}
use Rattle.sections.specs.Used.{used}
use Rattle.context.proofs.build.build.Goals as goal

pub freeze-requires : goal.freeze-requires
freeze-requires g c =
    let filled = c.in-Ok.ensures.filled c.args.tables.now.starts.now c.args.tables.now.contributions.now (
      holds_start _ _ _ (c.over.ensures.rows ∙ ap (λ r. r.now) c.replace.ensures.value) c.over.ensures.count,
      filed_start _ _ _ (c.over-2.ensures.rows ∙ ap (λ r. r.now) c.replace-2.ensures.value) c.over-2.ensures.count,
    ) in
    (filled.starts_hold.untouched.few, holds-in_order _ _ _ _ filled.starts_hold)

pub freeze-requires-in-Ok : goal.freeze-requires-in-Ok
freeze-requires-in-Ok g c =
    let filled = c.in-Ok.ensures.filled c.args.tables.now.starts.now c.args.tables.now.contributions.now (
      holds_start _ _ _ (c.over.ensures.rows ∙ ap (λ r. r.now) c.replace.ensures.value) c.over.ensures.count,
      filed_start _ _ _ (c.over-2.ensures.rows ∙ ap (λ r. r.now) c.replace-2.ensures.value) c.over-2.ensures.count,
    ) in
    (filled.rows_filed.untouched.few, filled.rows_filed.stands.in_order)

pub invariant_of-place : goal.invariant_of-place
invariant_of-place g c =
    let filled = c.in-Ok.ensures.filled c.args.tables.now.starts.now c.args.tables.now.contributions.now (
      holds_start _ _ _ (c.over.ensures.rows ∙ ap (λ r. r.now) c.replace.ensures.value) c.over.ensures.count,
      filed_start _ _ _ (c.over-2.ensures.rows ∙ ap (λ r. r.now) c.replace-2.ensures.value) c.over-2.ensures.count,
    ) in
    let starts = c.fill-filled.new.self.starts in
    let rows = c.fill-filled.new.self.contributions in
    let same : take c.freeze.result.count c.freeze.result.rows.now ≡ take starts.count starts.rows.now = search rules in
    let same_rows : take c.freeze-in-Ok.result.count c.freeze-in-Ok.result.rows.now ≡ take rows.count rows.rows.now = search rules in
    record {
      rises = subst (λ xs. Rises start_rank xs) (sym same) filled.starts_hold.known.rises;
      apart_all = subst (λ xs. Pairwise apart xs) (sym same_rows) filled.rows_apart;
      counted = c.count_named-named_count.ensures ∙ ap (λ xs. length (filter named xs)) (c.used.ensures ∙ sym same);
    }

pub returns-in-Ok-clause-granted : goal.returns-in-Ok-clause-granted
returns-in-Ok-clause-granted g c =
    let i = g.S.ImageSource.image c.args.source.now in
    let old = c.args.tables.now.starts.now in
    let old_rows = c.args.tables.now.contributions.now in
    let filled = c.in-Ok.ensures.filled c.args.tables.now.starts.now c.args.tables.now.contributions.now (
      holds_start _ _ _ (c.over.ensures.rows ∙ ap (λ r. r.now) c.replace.ensures.value) c.over.ensures.count,
      filed_start _ _ _ (c.over-2.ensures.rows ∙ ap (λ r. r.now) c.replace-2.ensures.value) c.over-2.ensures.count,
    ) in
    let starts = c.freeze.result in
    let rows = c.freeze-in-Ok.result in
    let same : Filled i (used c.in-Ok.sections) old starts.rows.now starts.count old_rows rows.rows.now rows.count =
    subst (λ v. Filled i (used c.in-Ok.sections) old starts.rows.now starts.count old_rows rows.rows.now v) (sym c.freeze-in-Ok.ensures.count)
    (subst (λ v. Filled i (used c.in-Ok.sections) old starts.rows.now starts.count old_rows v c.fill-filled.new.self.contributions.count) (sym c.freeze-in-Ok.ensures.rows)
    (subst (λ v. Filled i (used c.in-Ok.sections) old starts.rows.now v old_rows c.fill-filled.new.self.contributions.rows.now c.fill-filled.new.self.contributions.count) (sym c.freeze.ensures.count)
    (subst (λ v. Filled i (used c.in-Ok.sections) old v c.fill-filled.new.self.starts.count old_rows c.fill-filled.new.self.contributions.rows.now c.fill-filled.new.self.contributions.count) (sym c.freeze.ensures.rows) filled))) in
    record {
      outcome = filled-outcome i (used c.in-Ok.sections) old starts.rows.now starts.count old_rows rows.rows.now rows.count same;
      starts_rest = same.starts_hold.untouched;
      contributions_rest = same.rows_filed.untouched;
    }

pub returns-in-Ok-clause-runs : goal.returns-in-Ok-clause-runs
returns-in-Ok-clause-runs g c = blocks_are_runs (all_kept (g.S.ImageSource.image c.args.source.now))

pub returns-in-Ok-clause-one : goal.returns-in-Ok-clause-one
returns-in-Ok-clause-one g c = one_outcome (g.S.ImageSource.image c.args.source.now) (length c.args.tables.now.starts.now) (length c.args.tables.now.contributions.now)

pub returns-in-Err-clause-refused : goal.returns-in-Err-clause-refused
returns-in-Err-clause-refused g c = c.in-Err.ensures.refused c.args.tables.now.starts.now c.args.tables.now.contributions.now (
  holds_start _ _ _ (c.over.ensures.rows ∙ ap (λ r. r.now) c.replace.ensures.value) c.over.ensures.count,
  filed_start _ _ _ (c.over-2.ensures.rows ∙ ap (λ r. r.now) c.replace-2.ensures.value) c.over-2.ensures.count,
)

pub returns-in-Err-clause-runs : goal.returns-in-Err-clause-runs
returns-in-Err-clause-runs g c = blocks_are_runs (all_kept (g.S.ImageSource.image c.args.source.now))

pub returns-in-Err-clause-one : goal.returns-in-Err-clause-one
returns-in-Err-clause-one g c = one_outcome (g.S.ImageSource.image c.args.source.now) (length c.args.tables.now.starts.now) (length c.args.tables.now.contributions.now)

pub returns-in-Err-clause-contributions : goal.returns-in-Err-clause-contributions
returns-in-Err-clause-contributions g c = search rules
