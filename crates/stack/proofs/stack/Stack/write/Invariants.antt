use Rattle.std.proofs.Common.{◌≡◌, ◌++◌, map, reverse, take, drop}
use Rattle.provider.specs.Modules.{content}
use Rattle.inlining.specs.Finding.{inline_frame}
use Rattle.stack.proofs.stack.Stack.write.Given as goal

abbrev pub invariant-loop-k : goal.invariant-loop-k
invariant-loop-k g l =
    let x = content ((g.P.ModuleProvider.modules l.provider).at l.«module») in
    l.frames ≡ map (inline_frame l.«module» x) (take l.k (reverse l.calls)) ++ drop l.k l.initial.frames
