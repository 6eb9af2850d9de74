use Rattle.std.proofs.Common.{◌≡◌, List, Some, None, Option, IfSome, IsTrue, sym, rules}
use Rattle.base.specs.declared.image.SectionOffset.{SectionOffset}
use Rattle.procedures.specs.declared.row.Procedure.{Procedure}
use Rattle.lookup.specs.Finding.{covers, chosen}
use Rattle.lookup.proofs.Choosing.{last_passes}
use Rattle.lookup.proofs.Searching.{chosen_reach}
use Rattle.extents.proofs.choose.choose.Goals as goal

chosen_covers : (o : SectionOffset) (ps : List Procedure) (r : Option Procedure) → r ≡ chosen o ps → IfSome r (λ p. IsTrue (covers o p))
chosen_covers o ps None e = tt
chosen_covers o ps (Some p) e = last_passes (covers o) ps p (sym e)

pub returns-clause-chosen : goal.returns-clause-chosen
returns-clause-chosen c = search (rules, chosen_reach)

pub returns-clause-covers : goal.returns-clause-covers
returns-clause-covers c = search (rules, chosen_covers)
