use Rattle.std.proofs.Common.{◌≡◌, [], drop, None}
use Rattle.provider.specs.Modules.{content}
use Rattle.inlining.specs.Sites.{turns, turns_of}
use Rattle.sites.proofs.calls.first_turn.Given as goal

abbrev pub invariant-loop-item : goal.invariant-loop-item
invariant-loop-item g l =
    let symbols = (content ((g.P.ModuleProvider.modules l.provider).at l.module)).symbols in
    turns_of symbols l.procedure ≡ turns l.procedure.end l.item None [] (drop l.item symbols)
