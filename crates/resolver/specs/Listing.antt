-- The list of functions that a resolver gives, and a step along it. Assumes nothing.
use Rattle.std.specs.Prelude.{List}
use Rattle.image.specs.Image.{Image}
use Rattle.provider.specs.Modules.{Modules}
use Rattle.context.specs.Context.{meaning}
use Rattle.context.specs.declared.tables.Context.{Context}
use Rattle.addresses.specs.declared.Address.{Address}
use Rattle.listing.specs.Listing.{FoundList, functions}
use Rattle.listing.specs.Stepping.{Stepped, step}
use Rattle.shelf.specs.Shelf.{shelved}
use Rattle.shelf.specs.declared.shelf.Shelf.{Shelf}

abbrev pub listing : Modules → Context → List Address → Shelf → FoundList
listing ms c table s = functions ms (meaning c) table (shelved s)

abbrev pub stepped : Image → Modules → Context → List Address → Shelf → Stepped
stepped i ms c xs s = step i.text ms (meaning c) xs (shelved s)
