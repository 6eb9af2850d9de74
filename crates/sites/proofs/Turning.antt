-- What a record does to a walk. Assumes nothing.
use Rattle.std.proofs.Common.{◌≡◌, ℕ, ◌+◌, ◌<◌, ◌≤◌, nat_le, Bool, true, false, cond, List, [], ◌∷◌, map, drop, length, Some, None, Option, Ok, Err, Result, sym, refl, ap, ◌∙◌, subst}
use Rattle.std.proofs.lemmas.Bool.{lt-leb, le-leb}
use Rattle.std.specs.List.{slice_get}
use Rattle.frames.specs.declared.range.OpenSite.{OpenSite}
use Rattle.building.proofs.Items.{item_drop, item_within, end_drop, entry_item, entry_end, entry_fault}
use Rattle.base.specs.declared.image.FaultCode.{FaultCode}
use Rattle.image.specs.Image.{entry}
use Rattle.base.specs.declared.refusal.Refusal.{Refusal}
use Rattle.base.specs.declared.image.SectionOffset.{SectionOffset}
use Rattle.base.specs.declared.image.TextPart.{TextPart}
use Rattle.provider.specs.declared.symbols.Symbol.{Symbol}
use Rattle.provider.specs.declared.symbols.SymbolRecord.{SymbolRecord}
use Rattle.provider.specs.declared.symbols.Symbol.TheVariants.{Procedure as ProcedureSymbol, Thunk, SeparatedCode, InlineSite, Other}
use Rattle.provider.specs.Modules.{Module}
use Rattle.procedures.specs.declared.row.Procedure.{Procedure}
use Rattle.provider.specs.declared.symbols.SiteRow.{SiteRow}
use Rattle.frames.specs.declared.range.InlineRange.{InlineRange}
use Rattle.base.specs.declared.refusal.Refusal.TheVariants.{SitesTooDeep}
use Rattle.inlining.specs.Steps.{then as and_then}
use Rattle.inlining.specs.Sites.{Site, reach, class, skipped, passed, turns}
use Rattle.inlining.specs.Ranges.{Walked, most_open, file_of, with_rows, rows_from, opened, closed, walked}
use Rattle.sites.specs.declared.walk.Walk.{Walk}
use Rattle.sites.specs.Walk.{walk_of, ends_of, onward, finished, Stepped}

-- a record before the end of the innermost site, or of the procedure
pub before_reach : (end k : ℕ) (sites : List OpenSite) → (slice_get sites 0 ≡ None → k < end) → ((s : OpenSite) → slice_get sites 0 ≡ Some s → k < s.end) → nat_le (reach end (map (λ s. s.end) sites)) k ≡ false
before_reach end k [] none some = lt-leb end k (none refl)
before_reach end k (s ∷ sites) none some = lt-leb s.end k (some s refl)

pub before_end : (end k : ℕ) (sites : List OpenSite) (s : OpenSite) → slice_get sites 0 ≡ Some s → k < s.end → nat_le (reach end (map (λ s. s.end) sites)) k ≡ false
before_end end k sites s i l = before_reach end k sites (λ e. cc) (λ t e. let same : s ≡ t = cc in subst (λ u. k < u.end) same l)

-- what is no procedure and no site is passed over
pub passes : (y : Symbol) → ((o : SectionOffset) (length end : ℕ) (t : ℕ) (name : TextPart) → y ≡ ProcedureSymbol o length end t name → ⊥) → ((inlinee end : ℕ) → y ≡ InlineSite inlinee end → ⊥) → class y ≡ passed
passes (ProcedureSymbol o length end t name) f g = absurd (f o length end t name refl)
passes (Thunk o length end name) f g = refl
passes (SeparatedCode o length end parent) f g = refl
passes (InlineSite inlinee end) f g = absurd (g inlinee end refl)
passes Other f g = refl

-- the innermost site is the one that opened last
ends_opened : (m : ℕ) (rows : Site → List SiteRow) (s : Site) (w v : Walked) → Ok v ≡ opened m rows s w → map (λ o. o.end) v.sites ≡ s.end ∷ map (λ o. o.end) w.sites
ends_opened m rows s w v o = on (nat_le most_open (length w.sites)) (with_rows m s.item (length w.sites) s.inlinee w.ranges (rows s)) o
  where
    on : (b : Bool) (q : Result (List InlineRange) Refusal) → Ok v ≡ cond b (Err (SitesTooDeep m s.item)) (and_then q (λ rs. Ok (record { sites = record { inlinee = s.inlinee; end = s.end; file = file_of (rows s); from = length w.ranges } ∷ w.sites; ranges = rs }))) → map (λ o. o.end) v.sites ≡ s.end ∷ map (λ o. o.end) w.sites
    on true q e = cc
    on false (Ok rs) e = let f : v ≡ record { sites = record { inlinee = s.inlinee; end = s.end; file = file_of (rows s); from = length w.ranges } ∷ w.sites; ranges = rs } = cc in ap (λ u. map (λ o. o.end) u.sites) f
    on false (Err g) e = cc

-- what a record does while none is skipped
module _ (m : ℕ) (x : Module) (p : Procedure) (k : ℕ) (r : SymbolRecord) (old new : Walk) (none : old.skip ≡ None) where
  -- before the end of the innermost site, or of the procedure
  module _ (before : nat_le (reach p.end (ends_of old)) r.index ≡ false) where
    module _ (inlinee end : ℕ) (found : r.symbol ≡ InlineSite inlinee end) where
      abbrev site : Site
      site = record { item = k; index = r.index; inlinee = inlinee; end = end }

      pub site_opened : new.skip ≡ None → Ok (walk_of new) ≡ opened m (rows_from x p) site (walk_of old) → Stepped m x p k r old new (Ok true)
      site_opened s o rs =
          let ends = ends_opened m (rows_from x p) site (walk_of old) (walk_of new) o in
          rw (none, before, found, ← o, s) (ap (λ es. walked m (rows_from x p) (walk_of new) (turns p.end (k + 1) None es rs)) (sym ends))

      pub site_refused : (e : Refusal) (q : Result Bool Refusal) → Err e ≡ opened m (rows_from x p) site (walk_of old) → q ≡ Err e → Stepped m x p k r old new q
      site_refused e q o h = subst (λ v. Stepped m x p k r old new v) (sym h) (λ rs. rw (none, before, found, ← o) refl)

    pub procedure_within : (to : ℕ) → class r.symbol ≡ skipped to → (rs : List SymbolRecord) → onward m x p k old (r ∷ rs) ≡ walked m (rows_from x p) (walk_of old) (turns p.end (k + 1) (Some to) (ends_of old) rs)
    procedure_within to found rs = rw (none, before, found) refl

    pub record_other : ((o : SectionOffset) (length end : ℕ) (t : ℕ) (name : TextPart) → r.symbol ≡ ProcedureSymbol o length end t name → ⊥) → ((inlinee end : ℕ) → r.symbol ≡ InlineSite inlinee end → ⊥) → Stepped m x p k r old old (Ok true)
    record_other f g rs = let e = passes r.symbol f g in rw (none, before, e) refl

  -- at or past the end of the innermost site
  pub close_refused : (s : OpenSite) → slice_get (walk_of old).sites 0 ≡ Some s → s.end ≤ r.index → (e : Refusal) (q : Result Bool Refusal) → Err e ≡ closed m (walk_of old) → q ≡ Err e → Stepped m x p k r old new q
  close_refused s i l e q o h = subst (λ v. Stepped m x p k r old new v) (sym h) (λ rs. rw none (go (walk_of old).sites i o rs))
    where
      go : (sites : List OpenSite) → slice_get sites 0 ≡ Some s → Err e ≡ closed m (record { sites = sites; ranges = (walk_of old).ranges }) → (rs : List SymbolRecord) → walked m (rows_from x p) (record { sites = sites; ranges = (walk_of old).ranges }) (turns p.end k None (map (λ o. o.end) sites) (r ∷ rs)) ≡ Err e
      go [] j c rs = cc
      go (t ∷ sites) j c rs =
          let same : t ≡ s = cc in
          let at : nat_le t.end r.index ≡ true = le-leb t.end r.index (subst (λ u. u.end ≤ r.index) (sym same) l) in
          rw (at, ← c) refl

-- one answer more to the questions for records, where those from number k on come to all
module _ (m : ℕ) (x : Module) (p : Procedure) (k : ℕ) (old : Walk) (all : Result Walked Refusal) (come : onward m x p k old (drop k x.symbols) ≡ all) where
  module _ (r : SymbolRecord) (o : Option SymbolRecord) (answered : Ok o ≡ entry x.symbols x.symbols_end k) (is_record : o ≡ Some r) where
    record_there : slice_get x.symbols k ≡ Some r
    record_there = entry_item x.symbols x.symbols_end k r (sym answered ∙ ap Ok is_record)

    record_first : all ≡ onward m x p k old (r ∷ drop (k + 1) x.symbols)
    record_first = sym come ∙ ap (onward m x p k old) (item_drop x.symbols k r record_there)

    pub record_on : (new : Walk) (b : Bool) → b ≡ true → Stepped m x p k r old new (Ok b) → onward m x p (k + 1) new (drop (k + 1) x.symbols) ≡ all
    record_on new b e h = sym (record_first ∙ subst (λ v. Stepped m x p k r old new (Ok v)) e h (drop (k + 1) x.symbols))

    pub record_last : (new : Walk) (b : Bool) → b ≡ false → Stepped m x p k r old new (Ok b) → finished m x p new ≡ all
    record_last new b e h = sym (record_first ∙ subst (λ v. Stepped m x p k r old new (Ok v)) e h (drop (k + 1) x.symbols))

    pub record_refused : (new : Walk) (e : Refusal) → Stepped m x p k r old new (Err e) → Err e ≡ all
    record_refused new e h = sym (record_first ∙ h (drop (k + 1) x.symbols))

    pub record_within : k < length x.symbols
    record_within = item_within x.symbols k r record_there

  pub records_end : entry x.symbols x.symbols_end k ≡ Ok None → finished m x p old ≡ all
  records_end e = ap (onward m x p k old) (sym (end_drop x.symbols k (entry_end x.symbols x.symbols_end k e).0)) ∙ come

  pub records_fault : (code : FaultCode) (q : Result (Option SymbolRecord) FaultCode) → q ≡ Err code → q ≡ entry x.symbols x.symbols_end k → finished m x p old ≡ all
  records_fault code q e a = ap (onward m x p k old) (sym (end_drop x.symbols k (entry_fault x.symbols x.symbols_end k code (sym a ∙ e)).0)) ∙ come
