-- Addresses that come into a table. Assumes nothing.
use Rattle.std.specs.Prelude.{◌≡◌, List, length, take, drop, Result}
use Rattle.order.specs.declared.Row.{Ghosts}
use Rattle.base.specs.declared.image.Section.{Section}
use Rattle.base.specs.declared.image.SectionOffset.{SectionOffset}
use Rattle.base.specs.declared.refusal.Refusal.{Refusal}
use Rattle.table.specs.declared.ordered.OrderedTable.{OrderedTable}
use Rattle.inlining.specs.Steps.{leaves}
use Rattle.addresses.specs.declared.Address.{Address}
use Rattle.listing.specs.Listing.{with_offsets}

-- the used rows of a table
abbrev pub used : {g : Ghosts Address} → OrderedTable Address g → List Address
used t = take t.count t.rows.now

-- a call that is to add the addresses of places: what it answers and leaves, the rows past the used ones untouched
pub record Adds {g : Ghosts Address} {U : Type 0} (sections : List Section) (places : List SectionOffset) (before after : OrderedTable Address g) (result : Result U Refusal) : Type 0 where
  pub answer : leaves result (used after) ≡ with_offsets (length before.rows.now) sections (used before) places
  pub rest : drop after.count after.rows.now ≡ drop after.count before.rows.now
