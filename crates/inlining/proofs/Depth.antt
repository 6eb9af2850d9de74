-- How many calls are inlined at a place. Assumes nothing.
use Rattle.std.proofs.Common.{◌≡◌, ℕ, zero, suc, ◌+◌, ◌-◌, ◌<◌, ◌≤◌, max, Bool, true, false, cond, ◌||◌, ◌&&◌, ◌⊎◌, eqb, ltb, leb, List, [], ◌∷◌, ◌++◌, map, reverse, length, take, drop, is_some, Some, None, Ok, Err, Option, Result, sym, refl, ap, ◌∙◌, subst, inl, inr, ⊎_elim, arith}
use Rattle.std.specs.List.{list_any}
use Rattle.std.proofs.lemmas.Bool.{cases_Bool, both_ways, cond_both, cond-true, cond-false, or_cases, or_left, or_right, and_from, and_parts, eqb-true, eq-eqb, ltb-true, ltb-false, lt-ltb, le-ltb, cases_eq, cases_lt, false_from_ne_true}
use Rattle.std.proofs.lemmas.List.{take-append-drop, length-map, length-reverse, length_push, nil_from_length}
use Rattle.base.specs.declared.refusal.Refusal.{Refusal}
use Rattle.base.specs.declared.refusal.Refusal.TheVariants.{FrameTableShort}
use Rattle.building.specs.Outcome.{Built}
use Rattle.provider.specs.Modules.{Modules, Module, content}
use Rattle.provider.specs.declared.symbols.SiteRow.{SiteRow}
use Rattle.provider.specs.declared.symbols.SymbolRecord.{SymbolRecord}
use Rattle.procedures.specs.declared.row.Procedure.{Procedure}
use Rattle.procedures.specs.declared.function.Location.{Location}
use Rattle.procedures.specs.declared.function.Function.{Function}
use Rattle.lookup.specs.Reading.{Shelved, reading, filled, bears, shelve}
use Rattle.lookup.specs.Finding.{chosen, of_procedure, by_choice}
use Rattle.lookup.proofs.Choosing.{none-some, some_is}
use Rattle.frames.specs.declared.frame.Frame.{Frame}
use Rattle.frames.specs.declared.frame.FunctionFrames.{FunctionFrames}
use Rattle.frames.specs.declared.range.InlineRange.{InlineRange}
use Rattle.frames.specs.declared.range.OpenSite.{OpenSite}
use Rattle.inlining.specs.Sites.{Site, Turn, opens, closes, closings, skipped, site, passed, class, still, reach, turns, turns_of, Opened, opened_in}
use Rattle.inlining.specs.Ranges.{covered, since, Walked, nothing_walked, closed, opened, walked, rows_from, ranges_of, most_open, inlined, inlined_from, inlined_at}
use Rattle.inlining.specs.Finding.{Written, function_frame, inline_frame, inlined_calls, frames_of, written, found_or, chosen_frames, shelved_frames, find_located_frames}
use Rattle.inlining.specs.Laws.{keeps, deeper, deepest, levels, Depth}
use Rattle.inlining.proofs.Choice.{some_inlined, uncovered_inlined}
use Rattle.inlining.proofs.Walking.{ok_is, err-ok, then_ok, rows_ranges, rows_covered, covered-append, completion, completion_covered, walking, Opening, opening, closing}
use Rattle.inlining.proofs.Covering.{Nested, Whole, whole_within, split_completed, nested_walked, nested_nothing}
use Rattle.inlining.proofs.Agreeing.{informed}

-- how many sites are open after turns, while so many are before
abbrev pub standing : ℕ → List Turn → ℕ
standing n [] = n
standing n (opens s ∷ ts) = standing (n + 1) ts
standing n (closes ∷ ts) = standing (n - 1) ts

none_standing : (n : ℕ) (ends : List ℕ) → length ends ≡ n → ◌≡◌ {A = ℕ} (standing n (closings ends)) 0
none_standing n [] h = sym h
none_standing n (e ∷ ends) h = none_standing (n - 1) ends (omega arith)

-- all sites of a procedure close
turns_close : (end k n : ℕ) (skip : Option ℕ) (ends : List ℕ) (rs : List SymbolRecord) → length ends ≡ n → ◌≡◌ {A = ℕ} (standing n (turns end k skip ends rs)) 0
turns_close end k n skip ends [] h = none_standing n ends h
turns_close end k n (Some to) ends (r ∷ rs) h = turns_close end (k + 1) n (still to r) ends rs h
turns_close end k n None ends (r ∷ rs) h =
    cond_both (leb (reach end ends) r.index) _ _ (λ ts. ◌≡◌ {A = ℕ} (standing n ts) 0)
    (λ b. (elim ends as (λ es. length es ≡ n → ◌≡◌ {A = ℕ} (standing n (elim es [ [] ↦ [] | e ∷ others ↦ closes ∷ turns end (k + 1) None others rs ])) 0) [
      | [] ↦ λ l. sym l
      | e ∷ others ↦ λ l. turns_close end (k + 1) (n - 1) None others rs (omega arith)
    ]) h)
    (λ b. elim (class r.symbol) as (λ c. ◌≡◌ {A = ℕ} (standing n (elim c [
      | skipped to ↦ turns end (k + 1) (Some to) ends rs
      | site inlinee to ↦ opens (record { item = k; index = r.index; inlinee = inlinee; end = to }) ∷ turns end (k + 1) None (to ∷ ends) rs
      | passed ↦ turns end (k + 1) None ends rs
    ])) 0) [
      | skipped to ↦ turns_close end (k + 1) n (Some to) ends rs h
      | site inlinee to ↦ turns_close end (k + 1) (n + 1) None (to ∷ ends) rs (omega arith)
      | passed ↦ turns_close end (k + 1) n None ends rs h
    ])

levels_deeper : (d : ℕ) (o : Option ℕ) → levels (Some (deeper d o)) ≡ max (d + 1) (levels o)
levels_deeper d None = omega arith
levels_deeper d (Some e) = omega arith

-- what is covered further in by ranges that complete a site was covered before
completed_covers : (e place d : ℕ) (s : OpenSite) (rs : List InlineRange) → covered e place (rs ++ completion d s (since s rs)) ≡ true → (f : ℕ) × (e ≤ f) × (covered f place rs ≡ true)
completed_covers e place d s rs c =
    let old = take s.from rs in
    let new = since s rs in
    let all : (f : ℕ) → (covered f place old || covered f place new) ≡ covered f place rs = λ f. sym (covered-append f place old new) ∙ ap (covered f place) (take-append-drop s.from rs) in
    let within : (f : ℕ) → covered f place new ≡ true → covered f place rs ≡ true = λ f u. sym (all f) ∙ or_right (covered f place old) (covered f place new) u in
    ⊎_elim
    (λ u. (e, omega arith, sym (all e) ∙ or_left (covered e place old) (covered e place new) u))
    (λ u.
    ⊎_elim
    (λ v. (e, omega arith, within e v))
    (λ v. let p = and_parts (eqb d e) (covered (d + 1) place new) v in let q = eqb-true d e p.0 in (d + 1, omega arith, within (d + 1) p.1))
    (or_cases (covered e place new) (eqb d e && covered (d + 1) place new) (sym (completion_covered e place d s new) ∙ u)))
    (or_cases (covered e place old) (covered e place (new ++ completion d s new))
    (sym (covered-append e place old (new ++ completion d s new)) ∙ ap (covered e place) (sym (split_completed d s rs)) ∙ c))

module _ (rows : Site → List SiteRow) (place : ℕ) where
  -- one more than the depth of the deepest of the sites with a kept row over the place, or 0
  abbrev deep : List Opened → ℕ
  deep os = levels (deepest rows place os)

  deep_over : (o : Opened) (os : List Opened) → list_any (keeps place) (rows o.site) ≡ true → deep (o ∷ os) ≡ max (o.depth + 1) (deep os)
  deep_over o os h = ap levels (cond-true _ _ _ h) ∙ levels_deeper o.depth (deepest rows place os)

  deep_not : (o : Opened) (os : List Opened) → list_any (keeps place) (rows o.site) ≡ false → deep (o ∷ os) ≡ deep os
  deep_not o os h = ap levels (cond-false _ _ _ h)

module _ (m : ℕ) (rows : Site → List SiteRow) (place : ℕ) where
  -- what turns do to the ranges over a place, while so many sites are open
  record Turned (n : ℕ) (ts : List Turn) (rs : List InlineRange) (v : Walked) : Type 0 where
    grows : (e : ℕ) → covered e place rs ≡ true → covered e place v.ranges ≡ true
    sound : (e : ℕ) → covered e place v.ranges ≡ true → ((f : ℕ) × (e ≤ f) × (covered f place rs ≡ true)) ⊎ (e < deep rows place (opened_in n ts))
    full : (e : ℕ) → deep rows place (opened_in n ts) ≡ e + 1 → covered e place v.ranges ≡ true
    few : deep rows place (opened_in n ts) ≤ 32
    stands : length v.sites ≡ standing n ts

  after_opening : (n : ℕ) (s : Site) (ts : List Turn) (w u v : Walked) → length w.sites ≡ n → Opening m rows s w u → Turned (n + 1) ts u.ranges v → Turned n (opens s ∷ ts) w.ranges v
  after_opening n s ts w u v l o t =
      let own = list_any (keeps place) (rows s) in
      let os = opened_in (n + 1) ts in
      let here : Opened = record { depth = n; site = s } in
      let now : (e : ℕ) → covered e place u.ranges ≡ (covered e place w.ranges || (eqb n e && own)) = λ e.
      ap (covered e place) o.ranges ∙ covered-append e place w.ranges (rows_ranges (length w.sites) s.inlinee (rows s)) ∙
      ap (λ b. covered e place w.ranges || b) (rows_covered e place (length w.sites) s.inlinee (rows s)) ∙
      ap (λ k. covered e place w.ranges || (eqb k e && own)) l in
      let few = o.few in
      let under = t.few in
      record {
        grows = λ e c. t.grows e (now e ∙ or_left _ _ c);
        sound = λ e c.
            ⊎_elim
            (λ g.
            ⊎_elim
            (λ a. inl (g.0, g.1, a))
            (λ a. let p = and_parts (eqb n g.0) own a in let q = eqb-true n g.0 p.0 in let r = g.1 in let z = deep_over rows place here os p.1 in inr (omega arith))
            (or_cases _ _ (sym (now g.0) ∙ g.2)))
            (λ g. ⊎_elim (λ b. let z = deep_over rows place here os b in inr (omega arith)) (λ b. let z = deep_not rows place here os b in inr (omega arith)) (cases_Bool own))
            (t.sound e c);
        full = λ e c.
            ⊎_elim
            (λ b. let z = deep_over rows place here os b in
            ⊎_elim
            (λ k. t.full e k)
            (λ k. t.grows e (now e ∙ or_right _ _ (and_from _ _ (eq-eqb n e (omega arith)) b)))
            (cases_eq (deep rows place os) (e + 1)))
            (λ b. t.full e (sym (deep_not rows place here os b) ∙ c))
            (cases_Bool own);
        few = ⊎_elim (λ b. let z = deep_over rows place here os b in omega arith) (λ b. let z = deep_not rows place here os b in omega arith) (cases_Bool own);
        stands = t.stands;
      }

  after_closing : (n d : ℕ) (s : OpenSite) (ts : List Turn) (rs : List InlineRange) (v : Walked) → Turned (n - 1) ts (rs ++ completion d s (since s rs)) v → Turned n (closes ∷ ts) rs v
  after_closing n d s ts rs v t = record {
    grows = λ e c. t.grows e (covered-append e place rs (completion d s (since s rs)) ∙ or_left _ _ c);
    sound = λ e c.
        ⊎_elim
        (λ g. let a = completed_covers g.0 place d s rs g.2 in let q = g.1 in let r = a.1 in inl (a.0, omega arith, a.2))
        (λ g. inr g)
        (t.sound e c);
    full = t.full;
    few = t.few;
    stands = t.stands;
  }

  after_nothing : (n : ℕ) (ts : List Turn) (rs : List InlineRange) (v : Walked) → Turned (n - 1) ts rs v → Turned n (closes ∷ ts) rs v
  after_nothing n ts rs v t = record { grows = t.grows; sound = t.sound; full = t.full; few = t.few; stands = t.stands }

  turned_by : (n : ℕ) (ts : List Turn) (sites : List OpenSite) (rs : List InlineRange) (v : Walked) → length sites ≡ n → walked m rows (walking sites rs) ts ≡ Ok v → Turned n ts rs v
  turned_by n [] sites rs v l h =
      let e = ok_is (walking sites rs) v h in
      let same : rs ≡ v.ranges = ap (λ (x : Walked). x.ranges) e in
      record {
        grows = λ f c. subst (λ zs. covered f place zs ≡ true) same c;
        sound = λ f c. inl (f, omega arith, subst (λ zs. covered f place zs ≡ true) (sym same) c);
        full = λ f c. absurd (omega arith);
        few = omega arith;
        stands = ap (λ (x : Walked). length x.sites) (sym e) ∙ l;
      }
  turned_by n (opens s ∷ ts) sites rs v l h =
      let x = then_ok (opened m rows s (walking sites rs)) (λ u. walked m rows u ts) v h in
      let o = opening m rows s (walking sites rs) x.0 x.1 in
      let k : length x.0.sites ≡ n + 1 = ap length o.sites ∙ omega arith in
      after_opening n s ts (walking sites rs) x.0 v l o (turned_by (n + 1) ts x.0.sites x.0.ranges v k x.2)
  turned_by n (closes ∷ ts) [] rs v l h = after_nothing n ts rs v (turned_by (n - 1) ts [] rs v (omega arith) h)
  turned_by n (closes ∷ ts) (s ∷ sites) rs v l h =
      let x = then_ok (closed m (walking (s ∷ sites) rs)) (λ u. walked m rows u ts) v h in
      let e = closing m s sites rs x.0 x.1 in
      after_closing n (length sites) s ts rs v
      (turned_by (n - 1) ts sites (rs ++ completion (length sites) s (since s rs)) v (omega arith) (subst (λ u. walked m rows u ts ≡ Ok v) e x.2))

-- over a place, just the depths above that of the deepest site with a row over it are covered
module _ (m : ℕ) (x : Module) (p : Procedure) (place : ℕ) where
  abbrev depths : ℕ
  depths = deep (rows_from x p) place (opened_in 0 (turns_of x.symbols p))

  record Reached (rs : List InlineRange) : Type 0 where
    each : (e : ℕ) → covered e place rs ≡ ltb e depths
    few : depths ≤ 32

  reached_by : (v : Walked) → walked m (rows_from x p) nothing_walked (turns_of x.symbols p) ≡ Ok v → Reached v.ranges
  reached_by v h =
      let t = turned_by m (rows_from x p) place 0 (turns_of x.symbols p) [] [] v refl h in
      let none : v.sites ≡ [] = nil_from_length v.sites (t.stands ∙ turns_close p.end (p.item + 1) 0 None [] (drop (p.item + 1) x.symbols) refl) in
      let whole : Whole 0 v.ranges = subst (λ zs. Nested zs v.ranges) none (nested_walked m (rows_from x p) nothing_walked v (turns_of x.symbols p) nested_nothing h) in
      record {
        each = λ e.
            ⊎_elim
            (λ l.
            let d : depths - 1 ≡ e + (depths - 1 - e) = omega arith in
            whole_within e (depths - 1 - e) place v.ranges (λ f q k c. whole f q (omega arith) c) (subst (λ k. covered k place v.ranges ≡ true) d (t.full (depths - 1) (omega arith))) ∙
            sym (lt-ltb e depths l))
            (λ l.
            false_from_ne_true (covered e place v.ranges)
            (λ c. ⊎_elim (λ g. both_ways false refl g.2) (λ g. omega arith) (t.sound e c)) ∙
            sym (le-ltb e depths l))
            (cases_lt e depths);
        few = t.few;
      }

  reached : (rs : List InlineRange) → ranges_of m x p ≡ Ok rs → Reached rs
  reached rs h =
      let t = then_ok (walked m (rows_from x p) nothing_walked (turns_of x.symbols p)) _ rs h in
      subst Reached (ok_is t.0.ranges rs t.2) (reached_by t.0 t.1)

  -- one call for each covered depth
  calls_from : (n e : ℕ) (rs : List InlineRange) → Reached rs → e ≤ depths → depths ≤ e + n → length (inlined_from n e place rs) ≡ depths - e
  calls_from zero e rs r low high = omega arith
  calls_from (suc n) e rs r low high = go (inlined e place rs) refl (λ l. calls_from n (e + 1) rs r l (omega arith))
    where
      go : (o : Option InlineRange) → inlined e place rs ≡ o → (e + 1 ≤ depths → length (inlined_from n (e + 1) place rs) ≡ depths - (e + 1)) → length {A = InlineRange} (elim o [ None ↦ [] | Some c ↦ c ∷ inlined_from n (e + 1) place rs ]) ≡ depths - e
      go None k ih = let l = ltb-false e depths (sym (r.each e) ∙ uncovered_inlined e place rs k) in omega arith
      go (Some c) k ih =
          let l = ltb-true e depths (sym (r.each e) ∙ sym (some_inlined e place rs) ∙ ap is_some k) in
          let rest = ih (omega arith) in
          omega arith

  calls_inlined : (calls : List InlineRange) → inlined_calls m x place (Some p) ≡ Ok calls → length calls ≡ depths
  calls_inlined calls h =
      let t = then_ok (ranges_of m x p) _ calls h in
      let r = reached t.0 t.1 in
      let few = r.few in
      ap length (sym (ok_is (inlined_at place t.0) calls t.2)) ∙ calls_from most_open 0 t.0 r (omega arith) (omega arith) ∙ omega arith

-- a shelf with a procedure for a place bears its module's number
shelf_bears : (ms : Modules) (m : ℕ) (s : Shelved) (l : Location) (p : Procedure) → chosen l.offset (shelve ms m s).shelf.procedures ≡ Some p → bears m (shelve ms m s).shelf.holder ≡ true
shelf_bears ms m s l p h =
    ⊎_elim
    (λ b. ap (λ w. bears m w.shelf.holder) (cond-true (bears m s.holder) (record { refusal = None; shelf = s }) (filled m (reading m (ms.at m))) b) ∙ b)
    (λ b.
    let e = cond-false (bears m s.holder) (record { refusal = None; shelf = s }) (filled m (reading m (ms.at m))) b in
    ap (λ w. bears m w.shelf.holder) e ∙ go (reading m (ms.at m)) (sym (ap (λ w. chosen l.offset w.shelf.procedures) e) ∙ h))
    (cases_Bool (bears m s.holder))
  where
    go : (r : Result (Option (List Procedure)) Refusal) → chosen l.offset (filled m r).shelf.procedures ≡ Some p → bears m (filled m r).shelf.holder ≡ true
    go (Ok None) k = absurd (none-some p k)
    go (Ok (Some ps)) k = eq-eqb m m refl
    go (Err e) k = absurd (none-some p k)

-- what is written is as long as its answer says
written_length : (table : List Frame) (g : Function) (r : Result (List Frame) Refusal) (f : FunctionFrames) → found_or (written table g r).answer ≡ Ok (Some f) → (frames : List Frame) × (r ≡ Ok frames) × (f.frames ≡ length frames)
written_length table g (Err e) f h = err-ok e (Some f) h
written_length table g (Ok frames) f h = (frames, refl, go (ltb (length table) (length frames)) h)
  where
    go : (b : Bool) → found_or (cond {A = Written} b (record { answer = Err (FrameTableShort (length frames)); table = table }) (record { answer = Ok (record { start_rva = g.start_rva; end_rva = g.end_rva; frames = length frames }); table = frames ++ drop (length frames) table })).answer ≡ Ok (Some f) → f.frames ≡ length frames
    go true k = err-ok (FrameTableShort (length frames)) (Some f) k
    go false k = sym (ap (λ (z : FunctionFrames). z.frames) (some_is _ f (ok_is _ (Some f) k)))

module _ (text : List ℕ) (ms : Modules) (c : Built) (l : Location) (p : Procedure) (table : List Frame) (f : FunctionFrames) where
  abbrev mine : Module
  mine = content (ms.at l.contribution.«module»)

  found_depth : (r : Option Refusal) (s : Shelved) → bears l.contribution.«module» s.holder ≡ true → chosen l.offset s.procedures ≡ Some p → (shelved_frames text ms c l table r s).answer ≡ Ok (Some f) → f.frames ≡ depths l.contribution.«module» mine p l.offset.offset + 1
  found_depth (Some e) s b e' h = err-ok e (Some f) h
  found_depth None s b e h =
      let m = l.contribution.«module» in
      let g = of_procedure text c.starts l p in
      let w = written_length table g (frames_of ms l s (Some p) g) f (subst (λ o. (chosen_frames ms l table s o (by_choice text c.starts l o)).answer ≡ Ok (Some f)) e h) in
      let i = informed m mine l (Some p) g w.0 (sym (cond-true (bears m s.holder) _ _ b) ∙ w.1) in
      let calls = map (inline_frame m mine) i.calls in
      w.2 ∙ ap length i.whole ∙ length_push (reverse calls) (function_frame mine g i.row) ∙
      ap (λ n. n + 1) (length-reverse calls ∙ length-map i.calls (inline_frame m mine) ∙ calls_inlined m mine p l.offset.offset i.calls i.told)

-- the law of depth: one inline frame more than the depth of the deepest site that has a kept row over the address
pub depth : (text : List ℕ) (ms : Modules) (c : Built) (s : Shelved) → Depth text ms c s
depth text ms c s a l p table f here choice found =
    let m = l.contribution.«module» in
    let w = shelve ms m s in
    found_depth text ms c l p table f w.refusal w.shelf (shelf_bears ms m s l p choice) choice
    (subst (λ o. (find_located_frames text ms c o table s).answer ≡ Ok (Some f)) here found)
