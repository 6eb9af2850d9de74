use Rattle.std.proofs.Common.{◌≡◌, ◌≤◌, length, drop}
use Rattle.context.specs.Context.{meaning}
use Rattle.shelf.specs.Shelf.{shelved}
use Rattle.lookup.specs.Reading.{empty_shelf}
use Rattle.lookup.proofs.Sound.{Sound}
use Rattle.succession.specs.Succession.{rows_of, rows_after}
use Rattle.succession.proofs.calls.answer_after.Given as goal

abbrev pub invariant-loop-call : goal.invariant-loop-call
invariant-loop-call g l =
    let text = (g.P.ImageSource.image l.fn.provider).text in
    let modules = g.P.ModuleProvider.modules l.fn.provider in
    record {
      few : l.call-index ≤ length l.calls;
      provider : l.resolver.provider ≡ l.fn.provider;
      sound : Sound modules (shelved l.resolver.shelf);
      rows : rows_after text modules (meaning l.context) (drop l.call-index l.calls) (rows_of l.tables) (shelved l.resolver.shelf) ≡ rows_after text modules (meaning l.context) l.calls (rows_of l.initial.tables) empty_shelf;
    }
