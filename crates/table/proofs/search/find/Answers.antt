use Rattle.std.proofs.Common.{sym, ◌∙◌, arith}
use Rattle.order.proofs.Search.{found_past, found_here, equal_same}
use Rattle.table.proofs.search.find.Goals as goal

pub returns-in_err-standing : goal.returns-in_err-standing
returns-in_err-standing g c = λ ordered.
    c.from_residual.ensures ∙ sym (found_past g.R.Row.rank _ _ c.position.result ordered (c.position.ensures.place ordered) (omega (arith, c.in_err-standing.ensures)))

pub returns : goal.returns
returns g c = λ ordered.
    let same = c.is_eq.ensures ∙ equal_same c.compare.result (g.R.Row.rank c.in_ok-standing.field-0.now) (g.R.Row.rank c.args.row.now) c.compare.ensures in
    c.then_some.ensures ∙ sym (found_here g.R.Row.rank _ _ c.position.result ordered (c.position.ensures.place ordered) c.is_eq.result c.in_ok-standing.field-0.now (omega (arith, c.in_ok-standing.ensures)) c.in_ok-standing.ensures.lookup.1 same)
