use Rattle.std.proofs.Common.{◌≡◌, ◌++◌, map, take, drop}
use Rattle.context.specs.Context.{meaning}
use Rattle.lookup.specs.Reading.{empty_shelf}
use Rattle.lookup.specs.Finding.{find_function}
use Rattle.lookup.proofs.Sound.{Sound}
use Rattle.shelf.specs.Shelf.{shelved}
use Rattle.succession.proofs.answers.answer_all.Given as goal

abbrev pub invariant-loop-k : goal.invariant-loop-k
invariant-loop-k g l =
    let text = (g.P.ImageSource.image l.fn.provider).text in
    let modules = g.P.ModuleProvider.modules l.fn.provider in
    record {
      provider : l.resolver.provider ≡ l.fn.provider;
      sound : Sound modules (shelved l.resolver.shelf);
      answers : l.answers ≡ map (λ a. (find_function text modules (meaning l.context) a empty_shelf).answer) (take l.k l.addresses) ++ drop l.k l.initial.answers;
    }
