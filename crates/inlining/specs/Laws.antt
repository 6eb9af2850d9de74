-- What is promised of frames, in other words. Assumes nothing.
use Rattle.std.specs.Prelude.{◌≡◌, ℕ, ◌+◌, ◌-◌, ◌<◌, ◌≤◌, Bool, true, false, cond, not, ◌&&◌, max, List, [], ◌∷◌, ◌++◌, length, get_or, Some, None, Ok, Err, Option, Result, ⊤, ◌==◌, nat_lt}
use Rattle.std.specs.List.{list_any}
use Rattle.order.specs.Rank.{first, inside}
use Rattle.base.specs.declared.refusal.Refusal.{Refusal}
use Rattle.building.specs.Outcome.{Built}
use Rattle.provider.specs.Modules.{Modules, Module, content}
use Rattle.provider.specs.declared.symbols.SiteRow.{SiteRow}
use Rattle.procedures.specs.declared.row.Procedure.{Procedure}
use Rattle.procedures.specs.declared.function.Location.{Location}
use Rattle.procedures.specs.declared.function.Function.{Function}
use Rattle.lookup.specs.Reading.{Shelved, shelve}
use Rattle.lookup.specs.Places.{locate}
use Rattle.lookup.specs.Finding.{chosen, find_function}
use Rattle.frames.specs.declared.frame.Frame.{Frame}
use Rattle.frames.specs.declared.frame.FunctionFrames.{FunctionFrames}
use Rattle.frames.specs.declared.range.OpenSite.{OpenSite}
use Rattle.inlining.specs.Choice.{greatest}
use Rattle.inlining.specs.Stretches.{Stretch, stretches}
use Rattle.inlining.specs.Sites.{Site, Turn, closes, Opened, opened_in, turns_of}
use Rattle.inlining.specs.Ranges.{covered, since, Walked, nothing_walked, walked, closed, rows_from}
use Rattle.inlining.specs.Finding.{FoundFrames, find_frames}

-- the one that is chosen as the first of the greatest: none is greater, and it is the first that is as great
abbrev pub FirstGreatest : {X : Type 0} → (X → ℕ) → List X → Type 0
FirstGreatest {X} key xs = (x : X) → greatest key xs ≡ Some x → (first (λ y. nat_lt (key x) (key y)) xs ≡ None) × (first (λ y. key y == key x) xs ≡ Some x)

-- stretches that hold places, with a place between any two
abbrev pub Apart : List Stretch → Type 0
Apart [] = ⊤
Apart (s ∷ []) = s.from < s.upto
Apart (s ∷ t ∷ ss) = (s.from < s.upto) × (s.upto < t.from) × Apart (t ∷ ss)

-- the stretches of a test are the longest: they lie apart, rising, and hold just the places that pass
abbrev pub Longest : (ℕ → Bool) → ℕ → Type 0
Longest test n = Apart (stretches test n) × ((place : ℕ) → list_any (λ s. inside s.from s.upto place) (stretches test n) ≡ (nat_lt place n && test place))

-- a row that is kept and contains a place
abbrev pub keeps : ℕ → SiteRow → Bool
keeps place row = elim row.length [ None ↦ false | Some n ↦ not (n == 0) && inside row.offset (row.offset + n) place ]

-- the greater of two depths, none below all
abbrev pub deeper : ℕ → Option ℕ → ℕ
deeper depth None = depth
deeper depth (Some other) = max depth other

-- the depth of the deepest of the sites that have a kept row over a place
abbrev pub deepest : (Site → List SiteRow) → ℕ → List Opened → Option ℕ
deepest rows place [] = None
deepest rows place (o ∷ os) =
    cond (list_any (keeps place) (rows o.site)) (Some (deeper o.depth (deepest rows place os))) (deepest rows place os)

-- one more than a depth, or none
abbrev pub levels : Option ℕ → ℕ
levels None = 0
levels (Some depth) = depth + 1

-- In a chosen procedure an answer has one inline frame more than the depth of the deepest site that opens with a kept row over the address, and
-- none without such a site; the frame of the function comes to these.
abbrev pub Depth : List ℕ → Modules → Built → Shelved → Type 0
Depth text ms c s =
    (a : ℕ) (l : Location) (p : Procedure) (table : List Frame) (f : FunctionFrames) →
    locate c a ≡ Some l →
    chosen l.offset (shelve ms l.contribution.«module» s).shelf.procedures ≡ Some p →
    (find_frames text ms c a table s).answer ≡ Ok (Some f) →
    let x = content (ms.at l.contribution.«module») in
    f.frames ≡ levels (deepest (rows_from x p) l.offset.offset (opened_in 0 (turns_of x.symbols p))) + 1

-- whenever a site closes, what was covered at any depth since it opened is covered by the site itself
abbrev pub Covers : (m : ℕ) (x : Module) (p : Procedure) → Type 0
Covers m x p =
    (before after : List Turn) (w v : Walked) (s : OpenSite) (sites : List OpenSite) →
    turns_of x.symbols p ≡ before ++ closes ∷ after →
    walked m (rows_from x p) nothing_walked before ≡ Ok w → w.sites ≡ s ∷ sites →
    closed m w ≡ Ok v →
    (depth place : ℕ) → length sites ≤ depth → covered depth place (since s v.ranges) ≡ true → covered (length sites) place (since s v.ranges) ≡ true

-- the outermost frame that an answer leaves in its table has the function's name
abbrev pub Outermost : FoundFrames → FunctionFrames → Function → Type 0
Outermost found f g = (d : Frame) → (get_or found.table (f.frames - 1) d).name ≡ g.name

-- frames where there is a function: with its extent, and its name outermost; or a refusal that only frames meet
abbrev pub FramesOf : FoundFrames → Function → Result (Option FunctionFrames) Refusal → Type 0
FramesOf found g (Err e) = ⊤
FramesOf found g (Ok None) = ⊥
FramesOf found g (Ok (Some f)) = (f.start_rva ≡ g.start_rva) × (f.end_rva ≡ g.end_rva) × Outermost found f g

abbrev pub AgreesWith : FoundFrames → Result (Option Function) Refusal → Type 0
AgreesWith found (Err e) = found.answer ≡ Err e
AgreesWith found (Ok None) = found.answer ≡ Ok None
AgreesWith found (Ok (Some g)) = FramesOf found g found.answer

-- what find_frames answers agrees with what find_function does, and both leave the same shelf
abbrev pub Agrees : List ℕ → Modules → Built → Shelved → Type 0
Agrees text ms c s =
    (a : ℕ) (table : List Frame) →
    AgreesWith (find_frames text ms c a table s) (find_function text ms c a s).answer × ((find_frames text ms c a table s).shelf ≡ (find_function text ms c a s).shelf)
