use Rattle.std.proofs.Common.{◌≡◌, length, drop}
use Rattle.context.specs.Context.{meaning}
use Rattle.shelf.specs.Shelf.{shelved}
use Rattle.functions.specs.Adding.{used}
use Rattle.functions.proofs.Listed.{Come}
use Rattle.functions.proofs.list.fill.Given as goal

abbrev pub invariant-loop-module : goal.invariant-loop-module
invariant-loop-module g l =
    let ms = g.P.ModuleProvider.modules l.provider in
    let rows = length l.fn.addresses in
    record {
      come : Come ms (meaning l.context) rows (shelved l.fn.shelf) l.module (used l.addresses) (shelved l.shelf);
      rest : drop l.addresses.count l.addresses.rows.now ≡ drop l.addresses.count l.fn.addresses;
      lender : l.addresses.rows.ghost_name ≡ l.initial.addresses.rows.ghost_name;
      long : length l.addresses.rows.now ≡ rows;
    }
