use Rattle.std.proofs.Common.{sym, ap, ◌∙◌, arith}
use Rattle.order.specs.Placed.{changed}
use Rattle.order.proofs.Insertion.{placed-last, placed-changed, placed_new}
use Rattle.order.proofs.Search.{equal_same}
use Rattle.table.proofs.search.meeting.Goals as goal

pub returns-in-Some-clause-met : goal.returns-in-Some-clause-met
returns-in-Some-clause-met g c = λ there.
    let rank = g.R.Row.rank in
    let rows = c.args.rows.now in
    let same = sym (equal_same c.compare.result (rank c.in-Some.standing.now) (rank c.args.row.now) c.compare.ensures) ∙ sym c.is_eq.ensures ∙ c.if-is_eq.true in
    placed-changed rank g.R.Row.meets c.args.row.now rows c.args.place there c.in-Some.standing.now (omega (arith, c.in-Some.ensures)) c.in-Some.ensures.lookup.1 same ∙ ap (λ m. changed m rows c.args.place c.args.row.now) (sym c.meet.ensures)

pub returns-in_default-clause-met : goal.returns-in_default-clause-met
returns-in_default-clause-met g c = λ there.
    let rank = g.R.Row.rank in
    let other = sym (equal_same c.compare.result (rank c.in-Some.standing.now) (rank c.args.row.now) c.compare.ensures) ∙ sym c.is_eq.ensures ∙ c.if-is_eq.false in
    placed_new rank g.R.Row.meets c.args.row.now c.args.rows.now c.args.place there c.in-Some.standing.now (omega (arith, c.in-Some.ensures)) c.in-Some.ensures.lookup.1 other

pub returns-in_default-2-clause-met : goal.returns-in_default-2-clause-met
returns-in_default-2-clause-met g c = λ there.
    let past = rw c.in_default.is at c.get.ensures in
    placed-last g.R.Row.rank g.R.Row.meets c.args.row.now c.args.rows.now c.args.place there past.lookup.3
