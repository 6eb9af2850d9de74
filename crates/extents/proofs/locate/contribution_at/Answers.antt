use Rattle.std.proofs.Common.{sym, ap, ◌∙◌, arith}
use Rattle.std.specs.Bool.{then_some}
use Rattle.context.specs.Context.{meaning}
use Rattle.lookup.proofs.Searching.{contribution_none, contribution_is}
use Rattle.extents.proofs.locate.contribution_at.Goals as goal

pub returns-in_err-place : goal.returns-in_err-place
returns-in_err-place c =
    let there = c.args.context.now in
    let place = c.position.ensures in
    c.from_residual.ensures ∙ sym (contribution_none (meaning there).contributions c.args.offset c.position.result there.apart_all (rw (← c.used-contributions.ensures) c.position.ensures) (omega (arith, c.in_err-place.ensures)))

pub returns : goal.returns
returns c =
    let there = c.args.context.now in
    let x = c.in_ok-candidate.field-0.now in
    c.then_some.ensures ∙ ap (λ b. then_some b x) c.holds.ensures ∙ sym (contribution_is (meaning there).contributions c.args.offset c.position.result there.apart_all (rw (← c.used-contributions.ensures) c.position.ensures) x c.in_ok-place.ensures.0 (cc (c.in_ok-candidate.ensures.lookup.1, c.in_ok-place.ensures.1)))
