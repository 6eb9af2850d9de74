use Rattle.table.specs.Slice.{SameOrdered}
use Rattle.provider.specs.Modules.{content}
use Rattle.shelf.proofs.Kept.{Progress}
use Rattle.shelf.proofs.reading.read_procedures.Given as goal

abbrev pub invariant-loop-item : goal.invariant-loop-item
invariant-loop-item g l =
    record {
      read : Progress l.module (content ((g.P.ModuleProvider.modules l.provider).at l.module)) l.item l.procedures l.parents;
      slice : SameOrdered l.initial.procedures l.procedures;
    }
