use Rattle.std.proofs.Common.{sym, subst}
use Rattle.shelf.specs.Stretches.{Bounds}
use Rattle.shelf.proofs.Joining.{one_alone, or_alone}
use Rattle.shelf.proofs.stretches.stretch_up_to.Goals as goal

pub returns : goal.returns
returns c =
    let ps = c.args.procedures.now in
    let k = c.args.row in
    let alone = one_alone ps k _ c.end_of.result c.requires.1.0 c.end_of.ensures in
    subst (Bounds ps k) (sym c.unwrap_or.ensures) (or_alone ps k c.joined.result (record { from = k; end = c.end_of.result }) (c.joined.ensures ps c.requires.0 alone) alone)
