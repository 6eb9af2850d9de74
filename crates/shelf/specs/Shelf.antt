-- What a shelf holds. Assumes nothing.
use Rattle.std.specs.Prelude.{take}
use Rattle.lookup.specs.Reading.{Shelved}
use Rattle.shelf.specs.declared.shelf.Shelf.{Shelf}

abbrev pub shelved : Shelf → Shelved
shelved s = record { holder = s.«module»; procedures = take s.count s.rows }
