use Rattle.std.proofs.Common.{◌≡◌, ◌+◌, ◌∷◌, drop, drop-cons, add-one, get_or, sym, ap, ap₂, ◌∙◌, subst, arith}
use Rattle.std.proofs.lemmas.List.{drop_all}
use Rattle.context.specs.Context.{meaning}
use Rattle.shelf.specs.Shelf.{shelved}
use Rattle.lookup.specs.Reading.{empty_shelf}
use Rattle.lookup.proofs.Sound.{Sound}
use Rattle.listing.specs.Calls.{answer, shelf_left}
use Rattle.listing.proofs.History.{sound_answers, sound_after, history}
use Rattle.succession.specs.declared.calls.Call.TheVariants.{FindFunction}
use Rattle.succession.specs.Succession.{rows_of, given, left, rows_after}
use Rattle.succession.proofs.calls.answer_after.Goals as goal

pub loop-call-preserved : goal.loop-call-preserved
loop-call-preserved g c =
    let text = (g.P.ImageSource.image c.args.provider).text in
    let modules = g.P.ModuleProvider.modules c.args.provider in
    let there = meaning c.args.context.now in
    let calls = c.args.calls.now in
    let k = c.loop-call.call-index in
    let call = get_or calls k (FindFunction 0) in
    let inv = c.loop-call.invariant in
    let same = inv.provider in
    let s = shelved c.loop-call.resolver.shelf in
    let t = rows_of c.loop-call.tables in
    let asked = given call t in
    let head : drop k calls ≡ call ∷ drop (k + 1) calls = rw add-one (drop-cons calls k (FindFunction 0) c.loop-call-test.true) in
    let tables : rows_of c.answer-answer.new.tables ≡ left (answer text modules there asked s) t = c.answer-answer.ensures.tables ∙ ap (λ q. left (answer (g.P.ImageSource.image q).text (g.P.ModuleProvider.modules q) there asked s) t) same in
    let shelf : shelved c.answer-answer.new.resolver.shelf ≡ shelf_left text modules there asked s = c.answer-answer.ensures.shelf ∙ ap (λ q. shelf_left (g.P.ImageSource.image q).text (g.P.ModuleProvider.modules q) there asked s) same in
    record {
      few = omega (arith, c.loop-call-test.true);
      provider = c.answer-answer.ensures.provider ∙ same;
      sound = subst (Sound modules) (sym shelf) (sound_after text modules there asked s inv.sound);
      rows =
          ap₂ (λ u v. rows_after text modules there (drop (k + 1) calls) u v) tables shelf ∙
          ap (λ qs. rows_after text modules there qs t s) (sym head) ∙ inv.rows;
    }

pub returns-clause-answer : goal.returns-clause-answer
returns-clause-answer g c =
    let text = (g.P.ImageSource.image c.args.provider).text in
    let modules = g.P.ModuleProvider.modules c.args.provider in
    let there = meaning c.args.context.now in
    let inv = c.loop-call.invariant in
    let s = shelved c.loop-call.resolver.shelf in
    let done : rows_of c.loop-call.tables ≡ rows_after text modules there c.args.calls.now (rows_of c.args.tables.now) empty_shelf =
    ap (λ qs. rows_after text modules there qs (rows_of c.loop-call.tables) s) (sym (drop_all c.loop-call.call-index c.args.calls.now (omega (arith, c.loop-call-test.false)))) ∙ inv.rows in
    c.answer-answer-2.ensures.answer ∙
    ap (λ q. answer (g.P.ImageSource.image q).text (g.P.ModuleProvider.modules q) there (given c.args.last (rows_of c.loop-call.tables)) s) inv.provider ∙
    sound_answers text modules there (given c.args.last (rows_of c.loop-call.tables)) s inv.sound ∙
    ap (λ t. answer text modules there (given c.args.last t) empty_shelf) done

pub returns-clause-history : goal.returns-clause-history
returns-clause-history g c =
    let p = c.args.provider in
    history (g.P.ImageSource.image p).text (g.P.ModuleProvider.modules p) (meaning c.args.context.now)
