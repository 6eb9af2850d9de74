use Rattle.std.proofs.Common.{◌≡◌}
use Rattle.provider.specs.declared.symbols.SiteRow.{SiteRow}
use Rattle.inlining.specs.Sites.{Site, closings}
use Rattle.inlining.specs.Ranges.{walked}
use Rattle.std.proofs.Common.{List}
use Rattle.sites.specs.Walk.{walk_of, ends_of}
use Rattle.sites.proofs.walk.Walk.close_all.Given as goal

abbrev pub invariant-loop-self : goal.invariant-loop-self
invariant-loop-self l = (rows : Site → List SiteRow) → walked l.module rows (walk_of l.self) (closings (ends_of l.self)) ≡ walked l.module rows (walk_of l.initial.self) (closings (ends_of l.initial.self))

abbrev pub decreases-loop-self : goal.decreases-loop-self
decreases-loop-self l = l.self.depth
