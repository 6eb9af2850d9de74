use Rattle.std.proofs.Common.{rules, ◌≡◌, ◌<◌, length, Ok, sym, ap, ◌∙◌, arith}
use Rattle.std.proofs.lemmas.List.{length-take-le}
use Rattle.ranges.specs.Held.{held}
use Rattle.sites.specs.Walk.{walk_of, site_of}
use Rattle.sites.proofs.Open.{open_count, open_more, opened_bare}
use Rattle.sites.proofs.walk.Walk.push.Goals as goal

pub returns-clause-walk : goal.returns-clause-walk
returns-clause-walk c =
    let old = c.args.self.now in
    let room : old.depth < length old.sites = omega arith in
    let few : length (walk_of old).sites < 32 = omega (arith, open_count old.sites old.depth (omega arith)) in
    let from : old.ranges.count ≡ length (held old.ranges) = sym (length-take-le old.ranges.count old.ranges.rows (omega (arith, old.ranges.few))) in
    ap (λ ss. Ok (record { sites = ss; ranges = held old.ranges })) (open_more old.sites old.depth _ room) ∙ opened_bare c.args.module (site_of c.args.site) (walk_of old) _ few (ap (λ n. record { inlinee = c.args.site.inlinee; end = c.args.site.end; file = _; from = n }) from)

pub bounds-self-self : goal.bounds-self-self
bounds-self-self c = search rules

pub invariant_of-self : goal.invariant_of-self
invariant_of-self c = search rules
