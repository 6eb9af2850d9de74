-- What the inline sites of a procedure cover, and which calls are inlined at a place. Assumes nothing.
use Rattle.std.specs.Prelude.{ℕ, suc, zero, ◌+◌, Bool, false, cond, not, ◌&&◌, List, [], ◌∷◌, ◌++◌, map, length, drop, filter, fold, max, Some, None, Ok, Err, Option, Result, ◌==◌, nat_lt, nat_le}
use Rattle.std.specs.List.{list_any}
use Rattle.order.specs.Rank.{first, inside}
use Rattle.base.specs.declared.refusal.Refusal.{Refusal}
use Rattle.base.specs.declared.refusal.Refusal.TheVariants.{RangeOutside, SitesTooDeep, TooManyRanges}
use Rattle.building.specs.Starts.{or_else}
use Rattle.building.specs.Outcome.{top}
use Rattle.provider.specs.Modules.{Module}
use Rattle.provider.specs.declared.symbols.SiteRow.{SiteRow}
use Rattle.procedures.specs.declared.row.Procedure.{Procedure}
use Rattle.frames.specs.declared.range.InlineRange.{InlineRange}
use Rattle.frames.specs.declared.range.OpenSite.{OpenSite}
use Rattle.inlining.specs.Steps.{then}
use Rattle.inlining.specs.Choice.{greatest}
use Rattle.inlining.specs.Sites.{Site, Turn, opens, closes, turns_of}
use Rattle.inlining.specs.Stretches.{Stretch, stretches}

abbrev pub most_open : ℕ
most_open = 32

abbrev pub most_ranges : ℕ
most_ranges = 1024

-- what a site's row covers; one of no length, or of length 0, is not kept
abbrev pub range_of : ℕ → ℕ → SiteRow → Option InlineRange
range_of depth inlinee row = elim row.length [
  | None ↦ None
  | Some n ↦ cond (n == 0) None (Some (record { depth = depth; start = row.offset; end = row.offset + n; inlinee = inlinee; file = Some row.file; line = Some row.line }))
]

-- a range after others, of the site at number k of module m, ends above the top, or is one too many
abbrev pub range_refusal : ℕ → ℕ → List InlineRange → InlineRange → Option Refusal
range_refusal m k before r =
    or_else (cond (nat_lt top r.end) (Some (RangeOutside m k)) None)
    (cond (nat_le most_ranges (length before)) (Some (TooManyRanges m)) None)

abbrev pub unless_refused : List InlineRange → Option Refusal → Result (List InlineRange) Refusal
unless_refused rs None = Ok rs
unless_refused rs (Some e) = Err e

abbrev pub with_range : ℕ → ℕ → List InlineRange → Option InlineRange → Result (List InlineRange) Refusal
with_range m k before None = Ok before
with_range m k before (Some r) = unless_refused (before ++ r ∷ []) (range_refusal m k before r)

-- the ranges of a site's rows, each after those before it
abbrev pub with_rows : ℕ → ℕ → ℕ → ℕ → List InlineRange → List SiteRow → Result (List InlineRange) Refusal
with_rows m k depth inlinee before [] = Ok before
with_rows m k depth inlinee before (row ∷ rows) = then (with_range m k before (range_of depth inlinee row)) (λ after. with_rows m k depth inlinee after rows)

-- the file of the first row that is kept
abbrev pub kept : SiteRow → Bool
kept row = elim row.length [ None ↦ false | Some n ↦ not (n == 0) ]

abbrev pub file_of : List SiteRow → Option ℕ
file_of rows = elim (first kept rows) [ None ↦ None | Some row ↦ Some row.file ]

-- a range of some depth that contains a place
abbrev pub over : ℕ → ℕ → InlineRange → Bool
over depth place r = r.depth == depth && inside r.start r.end place

-- whether ranges of some depth cover a place
abbrev pub covered : ℕ → ℕ → List InlineRange → Bool
covered depth place rs = list_any (over depth place) rs

-- no range reaches further
abbrev pub furthest : List InlineRange → ℕ
furthest rs = fold (λ n r. max n r.end) 0 rs

-- what is covered at the next depth and not at this one, as the longest stretches, rising
abbrev pub uncovered : ℕ → List InlineRange → List Stretch
uncovered depth rs = stretches (λ place. covered (depth + 1) place rs && not (covered depth place rs)) (furthest rs)

abbrev pub added_range : ℕ → OpenSite → Stretch → InlineRange
added_range depth s t = record { depth = depth; start = t.from; end = t.upto; inlinee = s.inlinee; file = s.file; line = None }

-- the sites that are open, the innermost first, and the ranges so far, in the order in which they were written
pub record Walked : Type 0 where
  pub sites : List OpenSite
  pub ranges : List InlineRange

abbrev pub nothing_walked : Walked
nothing_walked = record { sites = []; ranges = [] }

-- what was written since a site opened
abbrev pub since : OpenSite → List InlineRange → List InlineRange
since s rs = drop s.from rs

-- at most 1,024 ranges stand
abbrev pub fitting : ℕ → List InlineRange → Result (List InlineRange) Refusal
fitting m rs = cond (nat_lt most_ranges (length rs)) (Err (TooManyRanges m)) (Ok rs)

-- a site that closes adds what the calls within it cover and it does not
abbrev pub completed : ℕ → OpenSite → List InlineRange → List InlineRange
completed depth s rs = rs ++ map (added_range depth s) (uncovered depth (since s rs))

abbrev pub closed : ℕ → Walked → Result Walked Refusal
closed m w = elim w.sites [
  | [] ↦ Ok w
  | s ∷ sites ↦ then (fitting m (completed (length sites) s w.ranges)) (λ rs. Ok (record { sites = sites; ranges = rs }))
]

-- rows gives the rows of each site
module _ (m : ℕ) (rows : Site → List SiteRow) where
  -- a site that opens writes its rows, unless 32 are open
  abbrev pub opened : Site → Walked → Result Walked Refusal
  opened s w =
      cond (nat_le most_open (length w.sites)) (Err (SitesTooDeep m s.item))
      (then (with_rows m s.item (length w.sites) s.inlinee w.ranges (rows s)) (λ rs. Ok (record {
        sites = record { inlinee = s.inlinee; end = s.end; file = file_of (rows s); from = length w.ranges } ∷ w.sites;
        ranges = rs;
      })))

  abbrev pub turned : Turn → Walked → Result Walked Refusal
  turned (opens s) w = opened s w
  turned closes w = closed m w

  abbrev pub walked : Walked → List Turn → Result Walked Refusal
  walked w [] = Ok w
  walked w (t ∷ ts) = then (turned t w) (λ v. walked v ts)

-- the rows of a site, for a walk from a procedure's start
abbrev pub rows_from : Module → Procedure → Site → List SiteRow
rows_from x p s = (x.site_rows s.index p.offset).items

-- all ranges of a procedure's sites
abbrev pub ranges_of : ℕ → Module → Procedure → Result (List InlineRange) Refusal
ranges_of m x p = then (walked m (rows_from x p) nothing_walked (turns_of x.symbols p)) (λ w. Ok w.ranges)

abbrev pub range_start : InlineRange → ℕ
range_start r = r.start

-- of the ranges of some depth that contain a place the one that starts last, the first written among equals
abbrev pub inlined : ℕ → ℕ → List InlineRange → Option InlineRange
inlined depth place rs = greatest range_start (filter (over depth place) rs)

-- from some depth on, at most n of them, until a depth has none
abbrev pub inlined_from : ℕ → ℕ → ℕ → List InlineRange → List InlineRange
inlined_from zero depth place rs = []
inlined_from (suc n) depth place rs = elim (inlined depth place rs) [ None ↦ [] | Some r ↦ r ∷ inlined_from n (depth + 1) place rs ]

-- the calls that are inlined at a place, the outermost first
abbrev pub inlined_at : ℕ → List InlineRange → List InlineRange
inlined_at place rs = inlined_from most_open 0 place rs
