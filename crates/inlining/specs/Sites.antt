-- Which inline sites open along a procedure's symbol records, and when one closes. Assumes nothing.
use Rattle.std.specs.Prelude.{ℕ, ◌+◌, ◌-◌, cond, List, [], ◌∷◌, drop, Some, None, Option, nat_le}
use Rattle.provider.specs.declared.symbols.SymbolRecord.{SymbolRecord}
use Rattle.provider.specs.declared.symbols.Symbol.{Symbol}
use Rattle.provider.specs.declared.symbols.Symbol.TheVariants.{Procedure as ProcedureSymbol, Thunk, SeparatedCode, InlineSite, Other}
use Rattle.procedures.specs.declared.row.Procedure.{Procedure}

-- a site: the number of its record in the module's list, the record's index, the function that was inlined, and the index up to which the
-- records within it reach
pub record Site : Type 0 where
  pub item : ℕ
  pub index : ℕ
  pub inlinee : ℕ
  pub end : ℕ

-- a site opens, or the innermost one that is open closes
pub data Turn : Type 0 where
  opens : Site → Turn
  closes : Turn

-- the list's end closes all that are open
abbrev pub closings : List ℕ → List Turn
closings [] = []
closings (e ∷ ends) = closes ∷ closings ends

-- what a record is to a walk that is not at an end: a procedure within, whose records are skipped; a site; or nothing
pub data Class : Type 0 where
  skipped : ℕ → Class
  site : ℕ → ℕ → Class
  passed : Class

abbrev pub class : Symbol → Class
class (ProcedureSymbol o length end t name) = skipped end
class (Thunk o length end name) = passed
class (SeparatedCode o length end parent) = passed
class (InlineSite inlinee end) = site inlinee end
class Other = passed

-- skipping goes on up to and including the first record at or past its end
abbrev pub still : ℕ → SymbolRecord → Option ℕ
still to r = cond (nat_le to r.index) None (Some to)

-- up to where the innermost of the open sites reaches, or the procedure
abbrev pub reach : ℕ → List ℕ → ℕ
reach end [] = end
reach end (e ∷ ends) = e

-- what the records from number k on do in a procedure that reaches up to an index, while sites are open that reach up to these, the innermost
-- first, and while records up to an index are skipped. A record at or past the end of the innermost site closes that one, and does nothing else;
-- without a site one at or past the procedure's end ends the walk.
abbrev pub turns : ℕ → ℕ → Option ℕ → List ℕ → List SymbolRecord → List Turn
turns end k skip ends [] = closings ends
turns end k (Some to) ends (r ∷ rs) = turns end (k + 1) (still to r) ends rs
turns end k None ends (r ∷ rs) =
    cond (nat_le (reach end ends) r.index)
    (elim ends [ [] ↦ [] | e ∷ others ↦ closes ∷ turns end (k + 1) None others rs ])
    (elim (class r.symbol) [
      | skipped to ↦ turns end (k + 1) (Some to) ends rs
      | site inlinee to ↦ opens (record { item = k; index = r.index; inlinee = inlinee; end = to }) ∷ turns end (k + 1) None (to ∷ ends) rs
      | passed ↦ turns end (k + 1) None ends rs
    ])

-- the walk begins after the procedure's own record
abbrev pub turns_of : List SymbolRecord → Procedure → List Turn
turns_of symbols p = turns p.end (p.item + 1) None [] (drop (p.item + 1) symbols)

-- a site that opened, and how many were open before it
pub record Opened : Type 0 where
  pub depth : ℕ
  pub site : Site

-- the sites that open, while some number of them is open
abbrev pub opened_in : ℕ → List Turn → List Opened
opened_in depth [] = []
opened_in depth (opens s ∷ ts) = record { depth = depth; site = s } ∷ opened_in (depth + 1) ts
opened_in depth (closes ∷ ts) = opened_in (depth - 1) ts
