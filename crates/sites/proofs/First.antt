-- The records before the first that does anything. Assumes nothing.
use Rattle.std.proofs.Common.{◌≡◌, ℕ, ◌+◌, ◌<◌, ◌≤◌, nat_le, List, [], ◌∷◌, drop, length, Some, None, Option, Ok, Err, Result, sym, refl, ap, ◌∙◌}
use Rattle.std.proofs.lemmas.Bool.{cond-true, lt-leb, le-leb}
use Rattle.std.specs.List.{slice_get}
use Rattle.base.specs.declared.image.FaultCode.{FaultCode}
use Rattle.base.specs.declared.image.SectionOffset.{SectionOffset}
use Rattle.base.specs.declared.image.TextPart.{TextPart}
use Rattle.base.specs.Lists.{Ending}
use Rattle.image.specs.Image.{entry}
use Rattle.building.proofs.Items.{item_drop, item_within, end_drop, entry_item, entry_end, entry_fault}
use Rattle.provider.specs.declared.symbols.SymbolRecord.{SymbolRecord}
use Rattle.provider.specs.declared.symbols.Symbol.TheVariants.{Procedure as ProcedureSymbol, InlineSite}
use Rattle.procedures.specs.declared.row.Procedure.{Procedure}
use Rattle.inlining.specs.Sites.{turns, turns_of}
use Rattle.sites.proofs.Turning.{passes}

-- one answer more to the questions for records, where those before number k do nothing
module _ (symbols : List SymbolRecord) (end : Ending) (p : Procedure) (k : ℕ) (come : turns_of symbols p ≡ turns p.end k None [] (drop k symbols)) where
  pub list_ends : entry symbols end k ≡ Ok None → turns_of symbols p ≡ []
  list_ends e = come ∙ ap (turns p.end k None []) (end_drop symbols k (entry_end symbols end k e).0)

  pub list_faulty : (code : FaultCode) (q : Result (Option SymbolRecord) FaultCode) → q ≡ Err code → q ≡ entry symbols end k → turns_of symbols p ≡ []
  list_faulty code q e a = come ∙ ap (turns p.end k None []) (end_drop symbols k (entry_fault symbols end k code (sym a ∙ e)).0)

  module _ (r : SymbolRecord) (o : Option SymbolRecord) (answered : Ok o ≡ entry symbols end k) (is_record : o ≡ Some r) where
    there : slice_get symbols k ≡ Some r
    there = entry_item symbols end k r (sym answered ∙ ap Ok is_record)

    pub record_there : k < length symbols
    record_there = item_within symbols k r there

    next : turns_of symbols p ≡ turns p.end k None [] (r ∷ drop (k + 1) symbols)
    next = come ∙ ap (turns p.end k None []) (item_drop symbols k r there)

    pub procedure_ends : p.end ≤ r.index → turns_of symbols p ≡ []
    procedure_ends l = next ∙ cond-true (nat_le p.end r.index) _ _ (le-leb p.end r.index l)

    pub record_passed : r.index < p.end → ((o : SectionOffset) (length end : ℕ) (t : ℕ) (name : TextPart) → r.symbol ≡ ProcedureSymbol o length end t name → ⊥) → ((inlinee end : ℕ) → r.symbol ≡ InlineSite inlinee end → ⊥) → turns_of symbols p ≡ turns p.end (k + 1) None [] (drop (k + 1) symbols)
    record_passed l f g =
        let before = lt-leb p.end r.index l in
        let other = passes r.symbol f g in
        next ∙ rw (before, other) refl
