use Rattle.std.proofs.Common.{◌≡◌, drop}
use Rattle.provider.specs.Modules.{content}
use Rattle.sites.specs.Walk.{onward}
use Rattle.sites.proofs.walk.Walk.follow.Given as goal

abbrev pub invariant-loop-item : goal.invariant-loop-item
invariant-loop-item g l =
    let x = content ((g.P.ModuleProvider.modules l.provider).at l.module) in
    onward l.module x l.procedure l.item l.self (drop l.item x.symbols) ≡ onward l.module x l.procedure l.fn.first l.fn.self (drop l.fn.first x.symbols)
