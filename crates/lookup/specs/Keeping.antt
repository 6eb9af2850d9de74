-- What is kept of a record, given a row for each parent so far. Assumes nothing.
use Rattle.std.specs.Prelude.{◌≡◌, ℕ, ◌≤◌, List, [], length, take, Some, None, Ok, Err, fold, Option, Result}
use Rattle.order.specs.Rank.{at}
use Rattle.order.specs.Placed.{placed}
use Rattle.base.specs.Rows.{offset_rank}
use Rattle.base.specs.declared.image.SectionOffset.{SectionOffset}
use Rattle.base.specs.Lists.{Ending}
use Rattle.base.specs.declared.refusal.Refusal.{Refusal}
use Rattle.provider.specs.Modules.{Module}
use Rattle.provider.specs.declared.symbols.Symbol.{Symbol}
use Rattle.provider.specs.declared.symbols.Symbol.TheVariants.{Procedure as ProcedureSymbol, Thunk, SeparatedCode, InlineSite, Other}
use Rattle.procedures.specs.Rows.{parent_rank, parent_meets, parent_of}
use Rattle.procedures.specs.declared.row.Procedure.{Procedure}
use Rattle.procedures.specs.declared.row.Parent.{Parent}
use Rattle.lookup.specs.Reading.{unless_empty, in_order, all_kept, most_procedures}

abbrev pub adopted_by : SectionOffset → ℕ → ℕ → ℕ → Option Parent → Option Procedure
adopted_by o length k end None = None
adopted_by o length k end (Some p) = unless_empty (record { offset = o; length = length; name = p.name; type_number = p.type_number; item = k; end = end })

abbrev pub kept_by : List Parent → ℕ → Symbol → Option Procedure
kept_by parents k (ProcedureSymbol o length end t name) = unless_empty (record { offset = o; length = length; name = name; type_number = t; item = k; end = end })
kept_by parents k (Thunk o length end name) = unless_empty (record { offset = o; length = length; name = name; type_number = 0; item = k; end = end })
kept_by parents k (SeparatedCode o length end parent) = adopted_by o length k end (at parent_rank (offset_rank parent) parents)
kept_by parents k (InlineSite inlinee end) = None
kept_by parents k Other = None

-- a row for each offset where a procedure was kept, the last of each
abbrev pub parents : List Procedure → List Parent
parents ps = fold (λ xs p. placed parent_rank parent_meets (parent_of p) xs) [] ps

-- the symbols of a module have been read to their end, or up to a refusal
abbrev pub Read : ℕ → Module → List Procedure → ℕ → Result Ending Refusal → Type 0
Read m x rows count (Ok end) = (end ≡ x.symbols_end) × ((ps : List Procedure) × (all_kept m 0 [] x.symbols ≡ Ok ps) × (take count rows ≡ in_order ps) × (count ≤ most_procedures))
Read m x rows count (Err e) = all_kept m 0 [] x.symbols ≡ Err e
