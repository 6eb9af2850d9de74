use Rattle.std.proofs.Common.{rules, ◌≡◌, ◌+◌, ◌-◌, ◌<◌, ltb, false, [], ◌∷◌, ◌++◌, map, reverse, length, take, drop, set, get_or, None, sym, refl, ap, ◌∙◌, subst, arith}
use Rattle.std.proofs.lemmas.Grind.{common_steps}
use Rattle.std.proofs.lemmas.List.{get_or-reverse, length-reverse, length-append, length-map}
use Rattle.std.proofs.lemmas.Bool.{cond-false, le-ltb}
use Rattle.provider.specs.Modules.{content}
use Rattle.inlining.specs.Finding.{inline_frame, function_frame, Written, fitted}
use Rattle.lookup.proofs.Resolving.{map_more}
use Rattle.stack.proofs.Writing.{all_written}
use Rattle.stack.proofs.stack.Stack.write.Goals as goal

pub loop-k-preserved : goal.loop-k-preserved
loop-k-preserved g c =
    let f = inline_frame c.args.«module» (content ((g.P.ModuleProvider.modules c.args.provider.now).at c.args.«module»)) in
    let calls = c.used-calls.result.now in
    let k = c.loop-k.k in
    let d = get_or calls (length calls - 1 - k) (record { depth = 0; start = 0; end = 0; inlinee = 0; file = None; line = None }) in
    let here : c.inline_frame.result ≡ f (get_or calls (length calls - 1 - k) d) = search rules in
    map_more f (reverse calls) c.args.frames.now c.loop-k.frames k d c.inline_frame.result (let a = length-reverse calls in omega arith) (omega arith) (here ∙ ap f (sym (get_or-reverse calls k d (omega arith)))) c.loop-k.invariant

pub returns-clause-table : goal.returns-clause-table
returns-clause-table g c =
    let x = content ((g.P.ModuleProvider.modules c.args.provider.now).at c.args.«module») in
    let f = inline_frame c.args.«module» x in
    let calls = c.used-calls.result.now in
    let n = length calls in
    let old = c.args.frames.now in
    let last = function_frame x c.args.function.now c.args.self.now.line in
    let long : length (reverse (map f calls) ++ last ∷ []) ≡ n + 1 = length-append (reverse (map f calls)) (last ∷ []) ∙ ap (λ n. n + 1) (length-reverse (map f calls) ∙ length-map calls f) in
    let all : c.loop-k.k ≡ n = search rules in
    let room : n < length old = search rules in
    let fits : ltb (length old) (length (reverse (map f calls) ++ last ∷ [])) ≡ false = le-ltb _ _ (omega arith) in
    ap (set c.loop-k.frames n) {y = last} c.function_frame.ensures ∙
    all_written f calls old c.loop-k.frames last n refl room (subst (λ m. c.loop-k.frames ≡ map f (take m (reverse calls)) ++ drop m old) all c.loop-k.invariant) ∙
    sym (ap {A = Written} (λ w. w.table) (cond-false _ _ _ fits)) ∙
    ap (λ cs. (fitted old c.args.function.now (reverse (map f cs) ++ last ∷ [])).table) c.used-calls.ensures

pub returns-then-frames-inlined-clause-answer : goal.returns-then-frames-inlined-clause-answer
returns-then-frames-inlined-clause-answer g c = grind (arith, common_steps)

pub returns-then-frames-inlined-clause-table : goal.returns-then-frames-inlined-clause-table
returns-then-frames-inlined-clause-table g c = grind (arith, common_steps)
