use Rattle.std.proofs.Common.{◌≤◌, length, refl, ap, ◌∙◌, take, drop}
use Rattle.ranges.proofs.Parts.{part}
use Rattle.ranges.proofs.list.Ranges.between.Goals as goal

pub returns : goal.returns
returns c l =
    let m : c.args.upto ≤ length c.used.result.now = rw c.used.ensures l in
    ap (λ x. x.now) c.unwrap_or.ensures ∙ part c.used.result.now c.args.from c.args.upto m c.get.result _ refl c.get.ensures.lookup ∙ ap (λ xs. drop c.args.from (take c.args.upto xs)) c.used.ensures
