use Rattle.std.proofs.Common.{rules, ◌≡◌, Err, sym, ap}
use Rattle.stack.proofs.Telling.{written_refused}
use Rattle.stack.specs.Known.{known_at}
use Rattle.shelf.specs.Shelf.{shelved}
use Rattle.inlining.specs.Finding.{Written}
use Rattle.stack.proofs.find.write_frames.Goals as goal

pub returns-in_err-stack-clause-table : goal.returns-in_err-stack-clause-table
returns-in_err-stack-clause-table g c =
    let e = c.in_err-stack.field-0.0 in
    let shelf = c.args.shelf.now in
    let modules = g.P.ModuleProvider.modules c.args.provider.now in
    let known : Err e ≡ known_at modules c.args.location.now c.args.function.now c.args.choice (shelved shelf) = search rules in
    sym (ap {A = Written} (λ w. w.table) (written_refused modules c.args.location.now (shelved shelf) c.args.choice c.args.function.now c.args.frames.now e known))
