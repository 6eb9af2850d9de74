-- What is kept of a record, by the rows of the parents. Assumes nothing.
use Rattle.std.proofs.Common.{◌≡◌, ℕ, List, sym, refl, ap, ◌∙◌}
use Rattle.provider.specs.declared.symbols.Symbol.{Symbol}
use Rattle.provider.specs.declared.symbols.Symbol.TheVariants.{Procedure as ProcedureSymbol, Thunk, SeparatedCode, InlineSite, Other}
use Rattle.procedures.specs.declared.row.Procedure.{Procedure}
use Rattle.lookup.specs.Reading.{kept}
use Rattle.lookup.specs.Keeping.{kept_by, adopted_by, parents}
use Rattle.lookup.proofs.Reading.{parents-at, adopted_parent}

-- the rows of the parents suffice
pub kept_by-parents : (ps : List Procedure) (k : ℕ) (s : Symbol) → kept_by (parents ps) k s ≡ kept ps k s
kept_by-parents ps k (ProcedureSymbol o length end t name) = refl
kept_by-parents ps k (Thunk o length end name) = refl
kept_by-parents ps k (SeparatedCode o length end parent) = ap (adopted_by o length k end) (parents-at parent ps) ∙ sym (adopted_parent o length k end _)
kept_by-parents ps k (InlineSite inlinee end) = refl
kept_by-parents ps k Other = refl
