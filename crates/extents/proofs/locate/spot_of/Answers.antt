use Rattle.std.proofs.Common.{sym}
use Rattle.std.proofs.lemmas.List.Quantifiers.{position-Some}
use Rattle.lookup.specs.Places.{here}
use Rattle.extents.proofs.locate.spot_of.Goals as goal

pub place_in-requires : goal.place_in-requires
place_in-requires c = (position-Some (here c.args.address) c.used-rows.result.now c.in_ok-index.index _ (sym c.in_ok-index.ensures)).1
