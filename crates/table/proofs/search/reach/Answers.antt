use Rattle.std.proofs.Common.{rules, of_calls, not, arith}
use Rattle.std.proofs.lemmas.Bool.{not-true, not-false}
use Rattle.std.proofs.lemmas.Fn.{always_returns_same}
use Rattle.order.specs.Rank.{before}
use Rattle.order.proofs.Search.{parted_upto, greater_after}
use Rattle.table.proofs.search.reach.Goals as goal

pub returns-clause-reach : goal.returns-clause-reach
returns-clause-reach g c = λ ordered.
    let rank = g.R.Row.rank in
    let q = rank c.args.row.now in
    let point = c.partition_point.ensures.partitioned (λ y. not (before q (rank y))) (always_returns_same _ _ _ (λ a r f k. search (rules, of_calls, greater_after))) (parted_upto rank _ q ordered) in
    record { within = c.partition_point.ensures.bound; upto = λ k d l. not-true _ (point.0 k d (omega arith) l); past = λ k d l m. not-false _ (point.1 k d l m) }
