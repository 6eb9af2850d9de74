use Rattle.std.proofs.Common.{take, ap, ◌∙◌, arith}
use Rattle.order.proofs.Insertion.{take_min}
use Rattle.table.proofs.Table.used.Goals as goal

pub returns : goal.returns
returns g c =
    ap (λ n. take n c.args.self.now.rows.now) (omega arith) ∙ take_min c.args.self.now.rows.now c.min.result c.args.self.now.count c.min.ensures
