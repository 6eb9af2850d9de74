-- One contribution more. Assumes nothing.
use Rattle.std.proofs.Common.{◌≡◌, ℕ, zero, suc, ◌+◌, ◌<◌, ◌≤◌, Bool, true, false, cond, not, ◌&&◌, ◌||◌, ltb, List, [], ◌∷◌, ◌++◌, map, length, take, drop, IfOk, Some, None, Ok, Err, Option, Result, sym, refl, ap, ◌∙◌, subst, append_assoc, append-nil, arith}
use mathlib.Core.List.{map-append}
use Rattle.std.specs.List.{slice_get}
use Rattle.std.specs.Result.{result_err}
use Rattle.std.proofs.lemmas.Bool.{cond-true, cond-false, le-ltb, ltb-false, or_parts, and_parts, not-true, eqb-false}
use Rattle.base.specs.declared.image.SectionContribution.{SectionContribution}
use Rattle.base.specs.declared.context.KnownStart.{KnownStart}
use Rattle.base.specs.declared.context.Contribution.{Contribution}
use Rattle.base.specs.declared.refusal.Step.TheVariants.{ReadContributions}
use Rattle.base.specs.declared.refusal.Refusal.{Refusal}
use Rattle.base.specs.declared.refusal.Refusal.TheVariants.{StartTableFull, ContributionTableFull, ContributionOutside, Unordered}
use Rattle.base.specs.Rows.{unnamed_start}
use Rattle.building.specs.Starts.{or_else, keeps, kept, contribution_starts, offset_count}
use Rattle.building.specs.Blocks.{end_of, block, joins, grown, more, blocks}
use Rattle.building.specs.Outcome.{top, closes, unordered, verdict, item_refusal, all_symbols, contribution_refusal}
use Rattle.building.specs.Filling.{Holds, Filed, Reading, Proper}
use Rattle.image.specs.Image.{Image}
use Rattle.building.proofs.Items.{kept_more}
use Rattle.building.proofs.Blocks.{blocks_more, blocks-none}
use Rattle.building.proofs.Outcomes.{or_some, or_none}

-- the newest block and the others
pub newest_some : (bs : List Contribution) (b : Contribution) → Some b ≡ slice_get bs 0 → bs ≡ b ∷ drop 1 bs
newest_some [] b e = let z : ◌≡◌ {A = ℕ} 0 1 = cc in absurd (omega arith)
newest_some (x ∷ bs) b e = let h : x ≡ b = cc in ap (λ y. y ∷ bs) h

pub newest_none : (bs : List Contribution) → None ≡ slice_get bs 0 → bs ≡ []
newest_none [] e = refl
newest_none (x ∷ bs) e = let z : ◌≡◌ {A = ℕ} 0 1 = cc in absurd (omega arith)

drop_one : {X : Type 0} (xs : List X) (x : X) → 0 < length xs → drop 1 (xs ++ x ∷ []) ≡ drop 1 xs ++ x ∷ []
drop_one [] x l = absurd (omega arith)
drop_one (y ∷ ys) x l = refl

some-length : (cs : List SectionContribution) (b : Contribution) (bs : List Contribution) → blocks cs ≡ b ∷ bs → 0 < length cs
some-length [] b bs e = let z : ◌≡◌ {A = ℕ} 0 1 = cc in absurd (omega arith)
some-length (c ∷ cs) b bs e = omega arith

-- every contribution after the first adds its start
pub starts_more : (symbols : List KnownStart) (cs : List SectionContribution) (c : SectionContribution) → 0 < length cs → (symbols ++ contribution_starts cs) ++ unnamed_start c.offset ∷ [] ≡ symbols ++ contribution_starts (cs ++ c ∷ [])
starts_more symbols cs c l =
    append_assoc symbols (contribution_starts cs) (unnamed_start c.offset ∷ []) ∙
    ap (λ ss. symbols ++ ss) (sym (ap (map (λ d. unnamed_start d.offset)) (drop_one cs c l) ∙ map-append (λ d. unnamed_start d.offset) (drop 1 cs) (c ∷ [])))

or_nothing : (o : Option Refusal) → or_else o None ≡ o
or_nothing None = refl
or_nothing (Some x) = refl

-- an answer that is known by its refusal
pub made_since : {X : Type 0} (r : Result X Refusal) (o : Option Refusal) (P Q : X → Type 0) → result_err r ≡ o → IfOk r P → ((x : X) → None ≡ o → P x → Q x) → IfOk r Q
made_since (Ok x) o P Q e p f = f x e p
made_since (Err y) o P Q e p f = tt

or_left_none : (o p : Option Refusal) → None ≡ or_else o p → None ≡ o
or_left_none None p e = refl
or_left_none (Some x) p e = let z : ◌≡◌ {A = ℕ} 0 1 = cc in absurd (omega arith)

or_right_none : (o p : Option Refusal) → None ≡ or_else o p → None ≡ p
or_right_none None p e = e
or_right_none (Some x) p e = let z : ◌≡◌ {A = ℕ} 0 1 = cc in absurd (omega arith)

none-cond : (b : Bool) (e : Refusal) → None ≡ cond b (Some e) None → b ≡ false
none-cond true e h = let z : ◌≡◌ {A = ℕ} 0 1 = cc in absurd (omega arith)
none-cond false e h = refl

module _ (symbols : List KnownStart) (cs : List SectionContribution) (old_starts starts : List KnownStart) (start_count : ℕ) (old_rows rows : List Contribution) (row_count : ℕ) (k : ℕ) (c : SectionContribution) where
  -- the first contribution opens the first block
  module _ (h : Reading symbols cs old_starts starts start_count old_rows rows row_count None) where
    none_before : cs ≡ []
    none_before = blocks-none cs (newest_none (blocks cs) h.open_block)

    first-starts : contribution_starts (cs ++ c ∷ []) ≡ contribution_starts cs
    first-starts = subst (λ l. contribution_starts (l ++ c ∷ []) ≡ contribution_starts l) (sym none_before) refl

    pub first-refused : item_refusal (length old_starts) (length old_rows) symbols cs k c ≡ cond (ltb top (end_of c)) (Some (ContributionOutside k)) None
    first-refused =
        let n : offset_count (symbols ++ contribution_starts (cs ++ c ∷ [])) ≤ length old_starts =
        subst (λ ss. offset_count (symbols ++ ss) ≤ length old_starts) (sym first-starts) (let a = h.starts_hold.counted in let f = h.starts_hold.untouched.few in let l = h.starts_hold.untouched.long in omega arith) in
        or_none _ _ (cond-false _ _ _ (le-ltb (length old_starts) _ n)) ∙
        subst (λ l. or_else (cond (closes (blocks l) c && ltb (length old_rows) (length (blocks l))) (Some ContributionTableFull) None) (or_else (cond (ltb top (end_of c)) (Some (ContributionOutside k)) None) (cond (unordered (blocks l) c) (Some (Unordered k c.«module» c.offset.section)) None)) ≡ cond (ltb top (end_of c)) (Some (ContributionOutside k)) None) (sym none_before) (or_nothing (cond (ltb top (end_of c)) (Some (ContributionOutside k)) None))

    pub first_read : 0 < c.size → Reading symbols (cs ++ c ∷ []) old_starts starts start_count old_rows rows row_count (Some (block c))
    first_read l = record {
      starts_hold = subst (λ ss. Holds (symbols ++ ss) old_starts starts start_count) (sym first-starts) h.starts_hold;
      closed = subst (λ l'. Filed (drop 1 (blocks (l' ++ c ∷ []))) old_rows rows row_count) (sym none_before) (subst (λ l'. Filed (drop 1 (blocks l')) old_rows rows row_count) none_before h.closed);
      open_block = subst (λ l'. Some (block c) ≡ slice_get (blocks (l' ++ c ∷ [])) 0) (sym none_before) refl;
      proper = subst (λ l'. Proper (blocks (l' ++ c ∷ []))) (sym none_before) (omega arith, tt);
    }

  -- a later one goes on with the newest block or opens the next
  module _ (b : Contribution) (h : Reading symbols cs old_starts starts start_count old_rows rows row_count (Some b)) where
    at_newest : blocks cs ≡ b ∷ drop 1 (blocks cs)
    at_newest = newest_some (blocks cs) b h.open_block

    pub later-starts : (symbols ++ contribution_starts cs) ++ unnamed_start c.offset ∷ [] ≡ symbols ++ contribution_starts (cs ++ c ∷ [])
    later-starts = starts_more symbols cs c (some-length cs b (drop 1 (blocks cs)) at_newest)

    abbrev Offsets : ℕ
    Offsets = offset_count ((symbols ++ contribution_starts cs) ++ unnamed_start c.offset ∷ [])

    -- the verdict by the newest block
    pub later-verdict : item_refusal (length old_starts) (length old_rows) symbols cs k c ≡ verdict (length old_starts) (length old_rows) Offsets (b ∷ drop 1 (blocks cs)) k c
    later-verdict =
        ap (λ bs. verdict (length old_starts) (length old_rows) (offset_count (symbols ++ contribution_starts (cs ++ c ∷ []))) bs k c) at_newest ∙
        ap (λ ss. verdict (length old_starts) (length old_rows) (offset_count ss) (b ∷ drop 1 (blocks cs)) k c) (sym later-starts)

    abbrev Outside : Option Refusal
    Outside = cond (ltb top (end_of c)) (Some (ContributionOutside k)) None

    abbrev Full : Option Refusal
    Full = cond (ltb (length old_starts) Offsets) (Some (StartTableFull ReadContributions)) None

    abbrev NoRoom : Option Refusal
    NoRoom = cond (ltb (length old_rows) (length (b ∷ drop 1 (blocks cs)))) (Some ContributionTableFull) None

    abbrev Broken : Option Refusal
    Broken = cond (ltb c.offset.offset b.start || ltb (end_of c) b.end) (Some (Unordered k c.«module» c.offset.section)) None

    pub later_full : (e : Refusal) → Some e ≡ Full → Some e ≡ item_refusal (length old_starts) (length old_rows) symbols cs k c
    later_full e f = sym (later-verdict ∙ or_some _ _ e (sym f))

    pub later_no_room : (e : Refusal) → None ≡ Full → joins b c ≡ false → Some e ≡ NoRoom → Some e ≡ item_refusal (length old_starts) (length old_rows) symbols cs k c
    later_no_room e f j g =
        sym (later-verdict ∙ or_none _ _ (sym f) ∙ or_some _ _ e (ap (λ t. cond (not t && ltb (length old_rows) (length (b ∷ drop 1 (blocks cs)))) (Some ContributionTableFull) None) j ∙ sym g))

    pub later_opened : (o : Option Refusal) → None ≡ Full → joins b c ≡ false → None ≡ NoRoom → o ≡ Outside → o ≡ item_refusal (length old_starts) (length old_rows) symbols cs k c
    later_opened o f j g e =
        e ∙ sym (later-verdict ∙ or_none _ _ (sym f) ∙ or_none _ _ (ap (λ t. cond (not t && ltb (length old_rows) (length (b ∷ drop 1 (blocks cs)))) (Some ContributionTableFull) None) j ∙ sym g) ∙ ap (λ t. or_else Outside (cond (t && (ltb c.offset.offset b.start || ltb (end_of c) b.end)) (Some (Unordered k c.«module» c.offset.section)) None)) j ∙ or_nothing Outside)

    pub later_joined : (o : Option Refusal) → None ≡ Full → joins b c ≡ true → o ≡ or_else Outside Broken → o ≡ item_refusal (length old_starts) (length old_rows) symbols cs k c
    later_joined o f j e =
        e ∙ sym (later-verdict ∙ or_none _ _ (sym f) ∙ or_none _ _ (ap (λ t. cond (not t && ltb (length old_rows) (length (b ∷ drop 1 (blocks cs)))) (Some ContributionTableFull) None) j) ∙ ap (λ t. or_else Outside (cond (t && (ltb c.offset.offset b.start || ltb (end_of c) b.end)) (Some (Unordered k c.«module» c.offset.section)) None)) j)

    -- a contribution that goes on with the block starts no lower
    pub joined_start : None ≡ or_else Outside Broken → b.start ≤ c.offset.offset
    joined_start e = ltb-false c.offset.offset b.start (or_parts _ _ (none-cond _ _ (or_right_none Outside Broken e))).0

    next_blocks : blocks (cs ++ c ∷ []) ≡ cond (joins b c) (grown b c ∷ drop 1 (blocks cs)) (block c ∷ b ∷ drop 1 (blocks cs))
    next_blocks = blocks_more cs c ∙ ap (λ bs. more bs c) at_newest

    proper_now : Proper (b ∷ drop 1 (blocks cs))
    proper_now = subst Proper at_newest h.proper

    pub joined_read : (starts' : List KnownStart) (n : ℕ) → Holds ((symbols ++ contribution_starts cs) ++ unnamed_start c.offset ∷ []) old_starts starts' n → joins b c ≡ true → 0 < c.size → b.start ≤ c.offset.offset → Reading symbols (cs ++ c ∷ []) old_starts starts' n old_rows rows row_count (Some (grown b c))
    joined_read starts' n hold j l m =
        let e : blocks (cs ++ c ∷ []) ≡ grown b c ∷ drop 1 (blocks cs) = next_blocks ∙ cond-true _ _ _ j in
        record {
          starts_hold = subst (λ ss. Holds ss old_starts starts' n) later-starts hold;
          closed = subst (λ bs. Filed (drop 1 bs) old_rows rows row_count) (sym e) h.closed;
          open_block = sym (ap (λ bs. slice_get bs 0) e);
          proper = subst Proper (sym e) (omega arith, proper_now.1);
        }

    pub opened_read : (starts' : List KnownStart) (n : ℕ) (rows' : List Contribution) (m : ℕ) → Holds ((symbols ++ contribution_starts cs) ++ unnamed_start c.offset ∷ []) old_starts starts' n → Filed (b ∷ drop 1 (blocks cs)) old_rows rows' m → joins b c ≡ false → 0 < c.size → Reading symbols (cs ++ c ∷ []) old_starts starts' n old_rows rows' m (Some (block c))
    opened_read starts' n rows' m hold file j l =
        let e : blocks (cs ++ c ∷ []) ≡ block c ∷ b ∷ drop 1 (blocks cs) = next_blocks ∙ cond-false _ _ _ j in
        record {
          starts_hold = subst (λ ss. Holds ss old_starts starts' n) later-starts hold;
          closed = subst (λ bs. Filed (drop 1 bs) old_rows rows' m) (sym e) file;
          open_block = sym (ap (λ bs. slice_get bs 0) e);
          proper = subst Proper (sym e) (omega arith, proper_now);
        }

positive : (n : ℕ) → (n ≡ 0 → ⊥) → 0 < n
positive zero h = absurd (h refl)
positive (suc n) h = omega arith

-- before the first contribution
pub reading-none : (symbols old_starts starts : List KnownStart) (start_count : ℕ) (old_rows rows : List Contribution) (row_count : ℕ) → Holds symbols old_starts starts start_count → Filed [] old_rows rows row_count → Reading symbols [] old_starts starts start_count old_rows rows row_count None
reading-none symbols old_starts starts start_count old_rows rows row_count h f = record {
  starts_hold = subst (λ ss. Holds ss old_starts starts start_count) (sym (append-nil symbols)) h;
  closed = f;
  open_block = refl;
  proper = tt;
}

module _ (i : Image) (start_rows contribution_rows : ℕ) (k : ℕ) (c : SectionContribution) (at_k : slice_get i.contributions k ≡ Some c) where
  abbrev Before : List SectionContribution
  Before = kept i.sections (take k i.contributions)

  -- a contribution that counts
  module _ (counts : keeps i.sections c ≡ true) where
    pub kept-more_by : Before ++ c ∷ [] ≡ kept i.sections (take (k + 1) i.contributions)
    kept-more_by = sym (kept_more (keeps i.sections) i.contributions k c at_k ∙ ap (λ b. Before ++ cond b (c ∷ []) []) counts)

    pub counted_size : 0 < c.size
    counted_size =
        let n = eqb-false c.size 0 (not-true _ (and_parts _ _ counts).0) in
        positive c.size n

    pub counted-refusal : contribution_refusal i start_rows contribution_rows k c ≡ item_refusal start_rows contribution_rows (all_symbols i) Before k c
    counted-refusal = cond-true _ _ _ counts

  -- one that does not
  module _ (skipped : keeps i.sections c ≡ false) where
    pub kept_as_before : Before ≡ kept i.sections (take (k + 1) i.contributions)
    kept_as_before = sym (kept_more (keeps i.sections) i.contributions k c at_k ∙ ap (λ b. Before ++ cond b (c ∷ []) []) skipped ∙ append-nil Before)

    pub skipped_refusal : contribution_refusal i start_rows contribution_rows k c ≡ None
    skipped_refusal = cond-false _ _ _ skipped
