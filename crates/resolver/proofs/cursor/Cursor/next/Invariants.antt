use Rattle.std.proofs.Common.{◌≡◌, length}
use Rattle.resolver.specs.Listing.{stepped}
use Rattle.resolver.proofs.cursor.Cursor.next.Given as goal

abbrev pub invariant-loop-first : goal.invariant-loop-first
invariant-loop-first g l =
    let image = g.P.ImageSource.image l.fn.resolver.provider in
    let modules = g.P.ModuleProvider.modules l.fn.resolver.provider in
    record {
      come : stepped image modules l.context l.self.addresses.now l.resolver.shelf ≡ stepped image modules l.context l.fn.self.addresses.now l.fn.resolver.shelf;
      provider : l.resolver.provider ≡ l.fn.resolver.provider;
    }

abbrev pub decreases-loop-first : goal.decreases-loop-first
decreases-loop-first g l = length l.self.addresses.now
