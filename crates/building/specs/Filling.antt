-- How far building has filled its tables: what the steps keep. Assumes nothing.
use Rattle.std.specs.Prelude.{◌≡◌, ℕ, ◌<◌, ◌≤◌, List, ◌++◌, length, take, drop, None, Option}
use Rattle.std.specs.List.{AllByRecursion, slice_get}
use Rattle.order.specs.Rank.{Pairwise}
use Rattle.image.specs.Image.{Image}
use Rattle.base.specs.declared.image.Section.{Section}
use Rattle.base.specs.declared.image.SectionContribution.{SectionContribution}
use Rattle.base.specs.declared.context.KnownStart.{KnownStart}
use Rattle.base.specs.declared.context.Contribution.{Contribution}
use Rattle.building.specs.Starts.{contribution_starts, Known, offset_count}
use Rattle.building.specs.Blocks.{blocks, Stands, apart}
use Rattle.building.specs.Outcome.{all_kept, all_starts, refusal}

-- past the used rows a table holds what it held
pub record Untouched {X : Type 0} (old rows : List X) (count : ℕ) : Type 0 where
  pub few : count ≤ length rows
  pub long : length rows ≡ length old
  pub rest : drop count rows ≡ drop count old

-- the start table holds the known starts of cs
pub record Holds (cs old rows : List KnownStart) (count : ℕ) : Type 0 where
  pub known : Known cs (take count rows)
  pub counted : count ≡ offset_count cs
  pub untouched : Untouched old rows count

-- the contribution table holds the closed blocks in order
pub record Filed (bs old rows : List Contribution) (count : ℕ) : Type 0 where
  pub stands : Stands bs (take count rows)
  pub counted : count ≡ length bs
  pub untouched : Untouched old rows count

-- blocks are not empty
abbrev pub Proper : List Contribution → Type 0
Proper bs = AllByRecursion (λ b. b.start < b.end) bs

-- the contributions in cs have been read, after the starts of the public symbols; the newest block is still open
pub record Reading (symbols : List KnownStart) (cs : List SectionContribution) (old_starts starts : List KnownStart) (start_count : ℕ) (old_rows rows : List Contribution) (row_count : ℕ) (newest : Option Contribution) : Type 0 where
  pub starts_hold : Holds (symbols ++ contribution_starts cs) old_starts starts start_count
  pub closed : Filed (drop 1 (blocks cs)) old_rows rows row_count
  pub open_block : newest ≡ slice_get (blocks cs) 0
  pub proper : Proper (blocks cs)

-- all five steps are done, and nothing was refused
pub record Filled (i : Image) (sections : List Section) (old_starts starts : List KnownStart) (start_count : ℕ) (old_rows rows : List Contribution) (row_count : ℕ) : Type 0 where
  pub same : sections ≡ i.sections
  pub starts_hold : Holds (all_starts i) old_starts starts start_count
  pub rows_filed : Filed (blocks (all_kept i)) old_rows rows row_count
  pub granted : refusal i (length old_starts) (length old_rows) (take row_count rows) ≡ None
  pub rows_apart : Pairwise apart (take row_count rows)
