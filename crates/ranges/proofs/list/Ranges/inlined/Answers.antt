use Rattle.std.proofs.Common.{rules, tests}
use Rattle.std.proofs.lemmas.Iterator.{YieldsList-from_slice}
use Rattle.std.proofs.lemmas.Iterator.Consumers.{YieldsList-at, YieldsList-from_filter, YieldsList-from_copied}
use Rattle.inlining.specs.Choice.{greater}
use Rattle.inlining.specs.Ranges.{range_start}
use Rattle.ranges.specs.Held.{held}
use Rattle.ranges.proofs.Reduced.{reduced}
use Rattle.ranges.proofs.list.Ranges.inlined.Goals as goal

pub returns : goal.returns
returns c =
    reduced _ (greater range_start) (λ f a x b q k. search rules) c.copied.result _ _ c.reduce.ensures.ran
    (YieldsList-from_copied (YieldsList-at c.copied.ensures.source
    (YieldsList-from_filter _ _ (YieldsList-at c.filter.ensures.source (YieldsList-from_slice (held c.args.self.now) cc)) c.filter.ensures.closure (λ x r q k. search (rules, tests)))))
