use Rattle.std.proofs.Common.{rules}
use Rattle.order.proofs.Rows.{in_order_from_rises}
use Rattle.shelf.proofs.shelf.Shelf.procedures.Goals as goal

pub returns-clause-value : goal.returns-clause-value
returns-clause-value c = search rules

pub returns-clause-rises : goal.returns-clause-rises
returns-clause-rises c = search (rules, in_order_from_rises)
