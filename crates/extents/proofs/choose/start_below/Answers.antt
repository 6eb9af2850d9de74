use Rattle.std.proofs.Common.{sym, ◌∙◌, arith}
use Rattle.lookup.proofs.Searching.{below_none, below_is}
use Rattle.extents.proofs.choose.start_below.Goals as goal

pub returns-in_err-checked_sub : goal.returns-in_err-checked_sub
returns-in_err-checked_sub c = λ reach.
    let s = c.args.starts.now in
    c.from_residual.ensures ∙ sym (below_none s.rows.now c.args.offset c.args.upto s.ordered reach (omega (arith, c.in_err-checked_sub.ensures)))

pub returns : goal.returns
returns c = λ reach.
    let s = c.args.starts.now in
    c.then_some.ensures ∙ sym (below_is s.rows.now c.args.offset c.args.upto s.ordered reach c.in_ok-start.field-0.now c.in_ok-checked_sub.ensures.0 (cc (c.in_ok-start.ensures.lookup.1, c.in_ok-checked_sub.ensures.1)))
