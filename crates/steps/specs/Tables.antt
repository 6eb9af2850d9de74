-- What the tables hold that building fills. Assumes nothing.
use Rattle.std.specs.Prelude.{List, []}
use Rattle.base.specs.Rows.{start_rank, contribution_rank}
use Rattle.table.specs.Slice.{SameSlice}
use Rattle.base.specs.declared.image.SectionContribution.{SectionContribution}
use Rattle.base.specs.declared.context.KnownStart.{KnownStart}
use Rattle.base.specs.declared.context.Contribution.{Contribution}
use Rattle.image.specs.Image.{Image}
use Rattle.building.specs.Filling.{Holds, Filed, Filled, Reading}
use Rattle.sections.specs.declared.list.Sections.{Sections}
use Rattle.sections.specs.Used.{used}
use Rattle.starts.specs.Order.{StaysOrdered}
use Rattle.steps.specs.declared.tables.Filling.{Filling}

-- the same two lent slices
abbrev pub SameSlices : Filling → Filling → Type 0
SameSlices before after = SameSlice before.starts after.starts × SameSlice before.contributions after.contributions

-- each of the two tables stays in order
abbrev pub StayOrdered : Filling → Filling → Type 0
StayOrdered before after = StaysOrdered start_rank before.starts after.starts × StaysOrdered contribution_rank before.contributions after.contributions

-- no row is used yet
abbrev pub Fresh : List KnownStart → List Contribution → Filling → Type 0
Fresh old rows f = Holds [] old f.starts.rows.now f.starts.count × Filed [] rows f.contributions.rows.now f.contributions.count

-- the contributions in cs have been read, after the starts of the public symbols
abbrev pub Reads : List KnownStart → List SectionContribution → List KnownStart → List Contribution → Filling → Type 0
Reads symbols cs old rows f = Reading symbols cs old f.starts.rows.now f.starts.count rows f.contributions.rows.now f.contributions.count f.newest

-- all five steps are done
abbrev pub Fills : Image → Sections → List KnownStart → List Contribution → Filling → Type 0
Fills i s old rows f = Filled i (used s) old f.starts.rows.now f.starts.count rows f.contributions.rows.now f.contributions.count
