use Rattle.std.proofs.Common.{ap, subst}
use Rattle.order.specs.Placed.{Reach}
use Rattle.base.specs.Rows.{start_rank}
use Rattle.lookup.proofs.Searching.{start_answers}
use Rattle.extents.proofs.choose.of_start.Goals as goal

pub returns : goal.returns
returns c fits =
    let reach = subst (λ q. Reach start_rank c.args.starts.now.rows.now q c.reach-upto.result) (ap start_rank c.into.ensures) c.reach-upto.ensures in
    start_answers c.args.location.now fits c.args.starts.now.rows.now c.in_ok-start.start c.in_ok-next.next c.between.result
    (c.in_ok-start.ensures reach) (c.in_ok-next.ensures reach) c.between.ensures
