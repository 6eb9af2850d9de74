use Rattle.std.proofs.Common.{◌≡◌, false, ◌≤◌, length, take, Some, None, Ok, Err, refl, sym, ap, subst, ◌∙◌, arith}
use Rattle.std.specs.List.{list_any}
use Rattle.std.proofs.lemmas.List.{length-take}
use Rattle.inlining.specs.Ranges.{most_ranges, since, fitting, completed}
use Rattle.ranges.specs.Held.{held}
use Rattle.ranges.specs.Uncovered.{uncovered_at, at_next_depth, FirstStretch}
use Rattle.ranges.proofs.Completed.{Swept, swept_none, swept_nothing, swept_more, swept_whole, swept_refused, looked, seen, fits, fitted}
use Rattle.ranges.proofs.list.Ranges.add_uncovered.Goals as goal
use Rattle.ranges.proofs.list.Ranges.add_uncovered.Goals.{Then-not-any_at_next_depth, In-Some, In_err-push, In_default}

-- nothing is uncovered
none : (c : Then-not-any_at_next_depth) → (Ok (held c.args.self.now) ≡ fitting c.args.module (completed c.args.depth c.args.site.now (held c.args.self.now))) × (held c.args.self.now ≡ take most_ranges (completed c.args.depth c.args.site.now (held c.args.self.now)))
none c =
    let old = held c.args.self.now in
    let long : c.args.self.now.count ≡ length old = omega (arith, length-take c.args.self.now.count c.args.self.now.rows) in
    let at : c.between.result.now ≡ since c.args.site.now old = looked c.args.depth c.args.site.now old (swept_none c.args.depth c.args.site.now old) c.args.self.now.count c.between.result.now long c.between.ensures in
    let no : list_any (at_next_depth c.args.depth) (since c.args.site.now old) ≡ false = ap (list_any (at_next_depth c.args.depth)) (sym at) ∙ sym c.any_at_next_depth.ensures ∙ c.if-not-any_at_next_depth.true in
    fits c.args.module old _ (swept_nothing c.args.depth c.args.site.now old no) (omega (arith, c.args.self.now.few))

pub returns-then-not-any_at_next_depth-clause-added : goal.returns-then-not-any_at_next_depth-clause-added
returns-then-not-any_at_next_depth-clause-added c = (none c).0

pub returns-then-not-any_at_next_depth-clause-left : goal.returns-then-not-any_at_next_depth-clause-left
returns-then-not-any_at_next_depth-clause-left c = (none c).1

-- a stretch is found
found : (c : In-Some) → FirstStretch (uncovered_at c.args.depth (since c.args.site.now (held c.args.self.now))) c.loop-start.place (Some (c.in-Some.start, c.in-Some.end))
found c =
    let old = held c.args.self.now in
    let long : c.args.self.now.count ≡ length old = omega (arith, length-take c.args.self.now.count c.args.self.now.rows) in
    seen c.args.depth c.args.site.now old c.loop-start.invariant c.args.self.now.count c.between-in-loop-start.result.now long c.between-in-loop-start.ensures (Some (c.in-Some.start, c.in-Some.end)) c.in-Some.ensures

pub loop-start-preserved : goal.loop-start-preserved
loop-start-preserved c =
    let more = swept_more c.args.depth c.args.site.now (held c.args.self.now) c.loop-start.invariant c.in-Some.start c.in-Some.end (found (goal.at.loop-start-preserved c).In-Some) in
    let same = fitted c.args.module (held c.push.new.self) _ c.in_ok-push.ensures.pushed in
    subst (λ rs. Swept c.args.depth c.args.site.now (held c.args.self.now) rs c.in-Some.end) (sym same) more

-- the range is one too many
over : (c : In_err-push) → FirstStretch (uncovered_at c.args.depth (since c.args.site.now (held c.args.self.now))) c.loop-start.place (Some (c.in-Some.start, c.in-Some.end)) → (Err c.in_err-push.field-0.0 ≡ fitting c.args.module (completed c.args.depth c.args.site.now (held c.args.self.now))) × (held c.loop-start.self ≡ take most_ranges (completed c.args.depth c.args.site.now (held c.args.self.now)))
over c stretch =
    let few : length (held c.loop-start.self) ≤ most_ranges = omega (arith, length-take c.loop-start.self.count c.loop-start.self.rows, c.loop-start.self.few) in
    swept_refused c.args.depth c.args.site.now (held c.args.self.now) c.loop-start.invariant c.args.module c.in_err-push.field-0.0 c.in-Some.start c.in-Some.end stretch few c.in_err-push.ensures.pushed

pub returns-in_err-push-clause-added : goal.returns-in_err-push-clause-added
returns-in_err-push-clause-added c = let o = (over (goal.at.returns-in_err-push-clause-added c).In_err-push (found (goal.at.returns-in_err-push-clause-added c).In-Some)).0 in grind arith

pub returns-in_err-push-clause-left : goal.returns-in_err-push-clause-left
returns-in_err-push-clause-left c = let o = (over (goal.at.returns-in_err-push-clause-left c).In_err-push (found (goal.at.returns-in_err-push-clause-left c).In-Some)).1 in c.in_err-push.ensures.refused refl ∙ o

-- nothing is left
whole : (c : In_default) → (Ok (held c.loop-start.self) ≡ fitting c.args.module (completed c.args.depth c.args.site.now (held c.args.self.now))) × (held c.loop-start.self ≡ take most_ranges (completed c.args.depth c.args.site.now (held c.args.self.now)))
whole c =
    let old = held c.args.self.now in
    let long : c.args.self.now.count ≡ length old = omega (arith, length-take c.args.self.now.count c.args.self.now.rows) in
    let few : length (held c.loop-start.self) ≤ most_ranges = omega (arith, length-take c.loop-start.self.count c.loop-start.self.rows, c.loop-start.self.few) in
    let end = seen c.args.depth c.args.site.now old c.loop-start.invariant c.args.self.now.count c.between-in-loop-start.result.now long c.between-in-loop-start.ensures None c.in_default.ensures in
    fits c.args.module (held c.loop-start.self) _ (swept_whole c.args.depth c.args.site.now old c.loop-start.invariant end) few

pub returns-clause-added : goal.returns-clause-added
returns-clause-added c = (whole c).0

pub returns-clause-left : goal.returns-clause-left
returns-clause-left c = (whole c).1
