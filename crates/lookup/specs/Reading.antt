-- Which procedures a module has, and what a shelf holds once a module was wanted. Assumes nothing.
use Rattle.std.specs.Prelude.{ℕ, ◌+◌, Bool, false, cond, List, [], ◌∷◌, ◌++◌, length, Some, None, Ok, Err, fold, Option, Result, ◌==◌, nat_lt}
use Rattle.order.specs.Rank.{same, last}
use Rattle.order.specs.Placed.{placed}
use Rattle.base.specs.Rows.{offset_rank}
use Rattle.base.specs.declared.image.SectionOffset.{SectionOffset}
use Rattle.base.specs.Lists.{Ending}
use Rattle.base.specs.declared.refusal.Refusal.{Refusal}
use Rattle.base.specs.declared.refusal.Refusal.TheVariants.{ProcedureOutside, TooManyProcedures}
use Rattle.building.specs.Starts.{or_else}
use Rattle.building.specs.Outcome.{top}
use Rattle.provider.specs.Modules.{Modules, Module, Content, absent, broken, present}
use Rattle.provider.specs.declared.symbols.SymbolRecord.{SymbolRecord}
use Rattle.provider.specs.declared.symbols.Symbol.{Symbol}
use Rattle.provider.specs.declared.symbols.Symbol.TheVariants.{Procedure as ProcedureSymbol, Thunk, SeparatedCode, InlineSite, Other}
use Rattle.procedures.specs.Rows.{procedure_rank, procedure_meets}
use Rattle.procedures.specs.declared.row.Procedure.{Procedure}

abbrev pub most_procedures : ℕ
most_procedures = 1024

-- a procedure of length 0 is not kept
abbrev pub unless_empty : Procedure → Option Procedure
unless_empty p = cond (p.length == 0) None (Some p)

abbrev pub starts_at : SectionOffset → Procedure → Bool
starts_at o p = same (procedure_rank p) (offset_rank o)

-- separated code takes the name and the type of its parent
abbrev pub adopted : SectionOffset → ℕ → ℕ → ℕ → Option Procedure → Option Procedure
adopted o length k end None = None
adopted o length k end (Some p) = unless_empty (record { offset = o; length = length; name = p.name; type_number = p.type_number; item = k; end = end })

-- what is kept of the record at number k, after those that were kept before it: the last of these that starts at its parent offset is the parent of separated code
abbrev pub kept : List Procedure → ℕ → Symbol → Option Procedure
kept before k (ProcedureSymbol o length end t name) = unless_empty (record { offset = o; length = length; name = name; type_number = t; item = k; end = end })
kept before k (Thunk o length end name) = unless_empty (record { offset = o; length = length; name = name; type_number = 0; item = k; end = end })
kept before k (SeparatedCode o length end parent) = adopted o length k end (last (starts_at parent) before)
kept before k (InlineSite inlinee end) = None
kept before k Other = None

-- by their offsets, the first of each
abbrev pub in_order : List Procedure → List Procedure
in_order ps = fold (λ xs p. placed procedure_rank procedure_meets p xs) [] ps

-- p, kept at number k of module m, ends above the top, or comes to an offset too many
abbrev pub procedure_refusal : ℕ → ℕ → List Procedure → Procedure → Option Refusal
procedure_refusal m k before p =
    or_else (cond (nat_lt top (p.offset.offset + p.length)) (Some (ProcedureOutside m k)) None)
    (cond (nat_lt most_procedures (length (in_order (before ++ p ∷ [])))) (Some (TooManyProcedures m k)) None)

abbrev pub unless_refused : List Procedure → Option Refusal → Result (List Procedure) Refusal
unless_refused ps None = Ok ps
unless_refused ps (Some e) = Err e

abbrev pub with_kept : ℕ → ℕ → List Procedure → Option Procedure → Result (List Procedure) Refusal
with_kept m k before None = Ok before
with_kept m k before (Some p) = unless_refused (before ++ p ∷ []) (procedure_refusal m k before p)

-- what is kept of the records from number k on, each after those kept before it, in the order of the list
abbrev pub all_kept : ℕ → ℕ → List Procedure → List SymbolRecord → Result (List Procedure) Refusal
all_kept m k before [] = Ok before
all_kept m k before (r ∷ rs) = elim (with_kept m k before (kept before k r.symbol)) [ Ok after ↦ all_kept m (k + 1) after rs | Err e ↦ Err e ]

-- a faulty list gives no information, but a refusal is met before the fault
abbrev pub informed : Ending → List Procedure → Option (List Procedure)
informed (Ok u) ps = Some (in_order ps)
informed (Err code) ps = None

abbrev pub ended : Ending → Result (List Procedure) Refusal → Result (Option (List Procedure)) Refusal
ended end (Ok ps) = Ok (informed end ps)
ended end (Err e) = Err e

abbrev pub read_through : ℕ → Module → Result (Option (List Procedure)) Refusal
read_through m x = ended x.symbols_end (all_kept m 0 [] x.symbols)

-- the procedures of a module, or none where there is no information
abbrev pub reading : ℕ → Content → Result (Option (List Procedure)) Refusal
reading m absent = Ok None
reading m broken = Ok None
reading m (present x) = read_through m x

-- a shelf: the number of the module read last, and its procedures
pub record Shelved : Type 0 where
  pub holder : Option ℕ
  pub procedures : List Procedure

abbrev pub empty_shelf : Shelved
empty_shelf = record { holder = None; procedures = [] }

pub record Wanted : Type 0 where
  pub refusal : Option Refusal
  pub shelf : Shelved

abbrev pub filled : ℕ → Result (Option (List Procedure)) Refusal → Wanted
filled m (Ok None) = record { refusal = None; shelf = empty_shelf }
filled m (Ok (Some ps)) = record { refusal = None; shelf = record { holder = Some m; procedures = ps } }
filled m (Err e) = record { refusal = Some e; shelf = empty_shelf }

abbrev pub bears : ℕ → Option ℕ → Bool
bears m None = false
bears m (Some n) = n == m

-- module m is wanted: a shelf that bears its number stays as it is, whatever it holds
abbrev pub shelve : Modules → ℕ → Shelved → Wanted
shelve ms m s = cond (bears m s.holder) (record { refusal = None; shelf = s }) (filled m (reading m (ms.at m)))
