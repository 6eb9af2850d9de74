use Rattle.std.proofs.Common.{◌≡◌, get_or, sym, ap, ◌∙◌, subst, arith}
use Rattle.context.specs.Context.{meaning}
use Rattle.lookup.specs.Reading.{empty_shelf}
use Rattle.lookup.specs.Finding.{find_function}
use Rattle.lookup.proofs.Sound.{Sound, function_fresh, function_sound}
use Rattle.lookup.proofs.Reading.{firsts_in_order}
use Rattle.lookup.proofs.Resolving.{map_more}
use Rattle.listing.proofs.History.{history}
use Rattle.shelf.specs.Shelf.{shelved}
use Rattle.succession.proofs.answers.answer_all.Goals as goal

pub returns-clause-history : goal.returns-clause-history
returns-clause-history g c =
    let p = c.args.provider in
    history (g.P.ImageSource.image p).text (g.P.ModuleProvider.modules p) (meaning c.args.context.now)

pub returns-clause-firsts : goal.returns-clause-firsts
returns-clause-firsts g c = firsts_in_order

pub loop-k-preserved : goal.loop-k-preserved
loop-k-preserved g c =
    let text = (g.P.ImageSource.image c.args.provider).text in
    let modules = g.P.ModuleProvider.modules c.args.provider in
    let there = meaning c.args.context.now in
    let address = get_or c.args.addresses.now c.loop-k.k 0 in
    let s = shelved c.loop-k.resolver.shelf in
    let here : find_function (g.P.ImageSource.image c.loop-k.resolver.provider).text (g.P.ModuleProvider.modules c.loop-k.resolver.provider) there address s ≡ find_function text modules there address s =
    ap (λ q. find_function (g.P.ImageSource.image q).text (g.P.ModuleProvider.modules q) there address s) c.loop-k.invariant.provider in
    let fresh : (find_function text modules there address s).answer ≡ (find_function text modules there address empty_shelf).answer = function_fresh text modules there address s c.loop-k.invariant.sound in
    let answer : c.find_function.result ≡ (find_function text modules there address empty_shelf).answer = c.find_function.ensures.answer ∙ ap (λ w. w.answer) here ∙ fresh in
    record {
      provider = c.find_function.ensures.provider ∙ c.loop-k.invariant.provider;
      sound = subst (Sound modules) (sym (c.find_function.ensures.shelf ∙ ap (λ w. w.shelf) here)) (function_sound text modules there address s c.loop-k.invariant.sound);
      answers = map_more (λ a. (find_function text modules there a empty_shelf).answer) c.args.addresses.now c.args.answers.now c.loop-k.answers c.loop-k.k 0 c.find_function.result (omega arith) (omega arith) answer c.loop-k.invariant.answers;
    }
