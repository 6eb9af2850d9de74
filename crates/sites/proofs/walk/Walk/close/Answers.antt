use Rattle.std.proofs.Common.{rules, ◌≡◌, ◌+◌, ◌<◌, length, take, reverse, get_or, None, sym, ap, ◌∙◌, arith}
use Rattle.inlining.specs.Ranges.{fitting, completed}
use Rattle.ranges.specs.Held.{held}
use Rattle.sites.specs.Walk.{walk_of}
use Rattle.sites.proofs.Open.{open_count, open_last, closed_last}
use Rattle.sites.proofs.walk.Walk.close.Goals as goal

pub returns-clause-walk : goal.returns-clause-walk
returns-clause-walk c =
    let old = c.args.self.now in
    let n = c.in-Some.depth in
    let site = get_or old.sites n (record { inlinee = 0; end = 0; file = None; from = 0 }) in
    let h = c.in-Some.ensures in
    let depth : old.depth ≡ n + 1 = omega arith in
    let room : n < length old.sites = omega arith in
    let count = open_count old.sites n (omega arith) in
    closed_last c.args.module (walk_of old) site (reverse (take n old.sites)) c.add_uncovered.result (held c.add_uncovered.new.self) (ap (λ k. reverse (take k old.sites)) depth ∙ open_last old.sites n _ room) (c.add_uncovered.ensures.added ∙ ap (λ k. fitting c.args.module (completed k site (held old.ranges))) (sym count))

pub returns-clause-depth : goal.returns-clause-depth
returns-clause-depth c = search rules
