-- What a walk has come to, and what is left of it. Assumes nothing.
use Rattle.std.specs.Prelude.{◌≡◌, ℕ, ◌+◌, Bool, true, false, List, ◌∷◌, map, reverse, take, Ok, Err, Result}
use Rattle.base.specs.declared.refusal.Refusal.{Refusal}
use Rattle.provider.specs.declared.symbols.SymbolRecord.{SymbolRecord}
use Rattle.provider.specs.Modules.{Module}
use Rattle.procedures.specs.declared.row.Procedure.{Procedure}
use Rattle.inlining.specs.Sites.{Site, turns, closings}
use Rattle.inlining.specs.Ranges.{Walked, rows_from, walked}
use Rattle.ranges.specs.Held.{held}
use Rattle.sites.specs.declared.walk.Walk.{Walk}
use Rattle.sites.specs.declared.walk.SiteRecord.{SiteRecord}

-- the sites that are open, the innermost first, and the ranges so far
abbrev pub walk_of : Walk → Walked
walk_of w = record { sites = reverse (take w.depth w.sites); ranges = held w.ranges }

-- up to where the open sites reach
abbrev pub ends_of : Walk → List ℕ
ends_of w = map (λ s. s.end) (walk_of w).sites

abbrev pub site_of : SiteRecord → Site
site_of s = record { item = s.item; index = s.index; inlinee = s.inlinee; end = s.end }

-- a walk in procedure p of module m
module _ (m : ℕ) (x : Module) (p : Procedure) where
  -- to what the records from number k on lead it
  abbrev pub onward : ℕ → Walk → List SymbolRecord → Result Walked Refusal
  onward k w rs = walked m (rows_from x p) (walk_of w) (turns p.end k w.skip (ends_of w) rs)

  -- to what it comes where no records are left
  abbrev pub finished : Walk → Result Walked Refusal
  finished w = walked m (rows_from x p) (walk_of w) (closings (ends_of w))

  -- what the record at number k does: the walk goes on after it, or is at its end, or is refused
  abbrev pub Stepped : ℕ → SymbolRecord → Walk → Walk → Result Bool Refusal → Type 0
  Stepped k r old new (Ok true) = (rs : List SymbolRecord) → onward k old (r ∷ rs) ≡ onward (k + 1) new rs
  Stepped k r old new (Ok false) = (rs : List SymbolRecord) → onward k old (r ∷ rs) ≡ finished new
  Stepped k r old new (Err e) = (rs : List SymbolRecord) → onward k old (r ∷ rs) ≡ Err e
