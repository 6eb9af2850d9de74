-- The used rows of a list of sections. Assumes nothing.
use Rattle.std.specs.Prelude.{List, take}
use Rattle.base.specs.declared.image.Section.{Section}
use Rattle.sections.specs.declared.list.Sections.{Sections}

abbrev pub used : Sections → List Section
used s = take s.count s.rows
