use Rattle.std.proofs.Common.{rules, of_calls, arith}
use Rattle.std.proofs.lemmas.Fn.{always_returns_same}
use Rattle.order.specs.Rank.{before}
use Rattle.order.proofs.Search.{parted_before, less_before}
use Rattle.table.proofs.search.position.Goals as goal

pub returns-clause-place : goal.returns-clause-place
returns-clause-place g c = λ ordered.
    let rank = g.R.Row.rank in
    let q = rank c.args.row.now in
    let point = c.partition_point.ensures.partitioned (λ y. before (rank y) q) (always_returns_same _ _ _ (λ a r f k. search (rules, of_calls, less_before))) (parted_before rank _ q ordered) in
    record { within = c.partition_point.ensures.bound; below = λ k d l. point.0 k d (omega arith) l; above = point.1 }
