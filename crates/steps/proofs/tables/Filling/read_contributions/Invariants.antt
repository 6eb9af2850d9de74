use Rattle.std.proofs.Common.{◌≡◌, ◌≤◌, List, [], length, take, drop}
use Rattle.base.specs.declared.context.KnownStart.{KnownStart}
use Rattle.base.specs.declared.context.Contribution.{Contribution}
use Rattle.building.specs.Starts.{kept}
use Rattle.building.specs.Outcome.{all_symbols, first_refusal, contribution_refusal}
use Rattle.building.specs.Filling.{Holds, Filed}
use Rattle.sections.specs.Used.{used}
use Rattle.steps.specs.Tables.{SameSlices, StayOrdered, Reads}
use Rattle.steps.proofs.tables.Filling.read_contributions.Given as goal

abbrev pub invariant-loop-item : goal.invariant-loop-item
invariant-loop-item g l =
    let i = g.S.ImageSource.image l.source in
    (l.item ≤ length i.contributions)
    × ((old : List KnownStart) (rows : List Contribution) → used l.sections ≡ i.sections → Holds (all_symbols i) old l.fn.self.starts.rows.now l.fn.self.starts.count → Filed [] rows l.fn.self.contributions.rows.now l.fn.self.contributions.count → Reads (all_symbols i) (kept i.sections (take l.item i.contributions)) old rows l.self × (first_refusal (contribution_refusal i (length old) (length rows)) l.item (drop l.item i.contributions) ≡ first_refusal (contribution_refusal i (length old) (length rows)) 0 i.contributions))
    × SameSlices l.fn.self l.self
    × StayOrdered l.fn.self l.self
