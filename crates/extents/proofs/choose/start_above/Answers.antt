use Rattle.std.proofs.Common.{sym, ◌∙◌}
use Rattle.std.proofs.lemmas.Bool.{ltb-true}
use Rattle.lookup.proofs.Searching.{above-none, above_is}
use Rattle.extents.proofs.choose.start_above.Goals as goal

pub returns-in_err-start : goal.returns-in_err-start
returns-in_err-start c = λ reach.
    let s = c.args.starts.now in
    c.from_residual.ensures ∙ sym (above-none s.rows.now c.args.offset c.args.upto s.ordered reach c.in_err-start.ensures.lookup.3)

pub returns : goal.returns
returns c = λ reach.
    let s = c.args.starts.now in
    c.then_some.ensures ∙ sym (above_is s.rows.now c.args.offset c.args.upto s.ordered reach c.in_ok-start.field-0.now (ltb-true _ _ (sym c.in_ok-start.ensures.lookup.0)) c.in_ok-start.ensures.lookup.1)
