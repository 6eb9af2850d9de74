use Rattle.std.proofs.Common.{rules, ◌≡◌, Some, subst, arith}
use Rattle.order.specs.Placed.{Settled}
use Rattle.order.proofs.Insertion.{settled_in_order}
use Rattle.table.proofs.ordered.OrderedTable.insert.Goals as goal

pub invariant_of-self-2 : goal.invariant_of-self-2
invariant_of-self-2 g c =
    let t = c.args.self.now in
    let rank = g.R.Row.rank in
    let meets = g.R.Row.meets in
    let used = c.in_ok-self.field-0 in
    let came : c.insert_row.result ≡ Some used = search rules in
    let settled = subst (λ o. Settled rank meets t.rows.now t.count c.args.row o c.insert_row.new.rows) came (c.insert_row.ensures t.ordered) in
    record { few = omega (arith, settled.1, c.insert_row.auto.rows); ordered = settled_in_order rank meets t.rows.now t.count used c.args.row c.insert_row.new.rows t.ordered settled }
