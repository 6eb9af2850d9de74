-- Building has one outcome, and which step gives it. Assumes nothing.
use Rattle.std.proofs.Common.{◌≡◌, ℕ, cond, ltb, List, ◌++◌, length, take, IfOk, Some, None, Ok, Err, Option, Result, sym, ap, ◌∙◌, subst, arith}
use Rattle.base.specs.declared.image.Section.{Section}
use Rattle.base.specs.declared.context.KnownStart.{KnownStart}
use Rattle.base.specs.declared.context.Contribution.{Contribution}
use Rattle.base.specs.declared.refusal.Refusal.{Refusal}
use Rattle.base.specs.declared.refusal.Refusal.TheVariants.{StartTableFull}
use Rattle.base.specs.declared.refusal.Step.TheVariants.{ReadPublicSymbols, AddSectionEnds}
use Rattle.base.specs.declared.refusal.FaultyList.TheVariants.{PublicSymbols}
use Rattle.image.specs.Image.{Image}
use Rattle.building.specs.Starts.{or_else, symbol_starts, contribution_starts, section_ends, offset_count}
use Rattle.building.specs.Blocks.{blocks, Stands, first_overlap}
use Rattle.building.specs.Outcome.{fault, all_symbols, all_kept, all_starts, sections_refused, symbols_refused, contributions_refused, ends_refused, refusal, Built, Outcome}
use Rattle.building.specs.Filling.{Filled}
use Rattle.building.proofs.Starts.{known_one}
use Rattle.building.proofs.Blocks.{stands_one, stands-some}

pub or_some : (o p : Option Refusal) (e : Refusal) → o ≡ Some e → or_else o p ≡ Some e
or_some o p e h = ap (λ v. or_else v p) h

pub or_none : (o p : Option Refusal) → o ≡ None → or_else o p ≡ p
or_none o p h = ap (λ v. or_else v p) h

none-some : {a : Refusal} → None ≡ Some a → ⊥
none-some p = let z : ◌≡◌ {A = ℕ} 0 1 = cc in omega arith

some_is : {a b : Refusal} → Some a ≡ Some b → a ≡ b
some_is p = cc

module _ (i : Image) (start_rows contribution_rows : ℕ) where
  abbrev Result' : Type 0
  Result' = Result Built Refusal

  -- building has no more than one outcome
  pub one_outcome : (r r' : Result Built Refusal) → Outcome i start_rows contribution_rows r → Outcome i start_rows contribution_rows r' → r ≡ r'
  one_outcome (Ok b) (Ok b') h k =
      let s : b.sections ≡ b'.sections = h.1 ∙ sym k.1 in
      let t : b.starts ≡ b'.starts = known_one (all_starts i) b.starts b'.starts h.2 k.2 in
      let c : b.contributions ≡ b'.contributions = stands_one (blocks (all_kept i)) b.contributions b'.contributions h.3 k.3 in
      λ j. Ok (record { sections = s j; starts = t j; contributions = c j })
  one_outcome (Ok b) (Err e) h k =
      let c = stands_one (blocks (all_kept i)) b.contributions k.0 h.3 k.1 in
      absurd (none-some (sym h.0 ∙ ap (refusal i start_rows contribution_rows) c ∙ k.2))
  one_outcome (Err e) (Ok b) h k =
      let c = stands_one (blocks (all_kept i)) b.contributions h.0 k.3 h.1 in
      absurd (none-some (sym k.0 ∙ ap (refusal i start_rows contribution_rows) c ∙ h.2))
  one_outcome (Err e) (Err e') h k =
      let c = stands_one (blocks (all_kept i)) h.0 k.0 h.1 k.1 in
      ap Err (some_is (sym h.2 ∙ ap (refusal i start_rows contribution_rows) c ∙ k.2))

  abbrev Refused : Refusal → Type 0
  Refused e = Outcome i start_rows contribution_rows (Err e)

  pub refused-sections : (e : Refusal) → sections_refused i start_rows contribution_rows ≡ Some e → Refused e
  refused-sections e h = let r = stands-some (blocks (all_kept i)) in (r.0, r.1, or_some _ _ e h)

  module _ (s : sections_refused i start_rows contribution_rows ≡ None) where
    pub refused-symbols : (e : Refusal) → symbols_refused i start_rows contribution_rows ≡ Some e → Refused e
    refused-symbols e h = let r = stands-some (blocks (all_kept i)) in (r.0, r.1, or_none _ _ s ∙ or_some _ _ e h)

    module _ (y : symbols_refused i start_rows contribution_rows ≡ None) where
      pub refused-contributions : (e : Refusal) → contributions_refused i start_rows contribution_rows ≡ Some e → Refused e
      refused-contributions e h = let r = stands-some (blocks (all_kept i)) in (r.0, r.1, or_none _ _ s ∙ or_none _ _ y ∙ or_some _ _ e h)

      module _ (c : contributions_refused i start_rows contribution_rows ≡ None) (xs : List Contribution) (st : Stands (blocks (all_kept i)) xs) where
        pub refused_overlap : (e : Refusal) → first_overlap xs ≡ Some e → Refused e
        refused_overlap e h = (xs, st, or_none _ _ s ∙ or_none _ _ y ∙ or_none _ _ c ∙ or_some _ _ e h)

        module _ (o : first_overlap xs ≡ None) where
          pub refused_ends : (e : Refusal) → ends_refused i start_rows contribution_rows ≡ Some e → Refused e
          refused_ends e h = (xs, st, or_none _ _ s ∙ or_none _ _ y ∙ or_none _ _ c ∙ or_none _ _ o ∙ h)

          pub granted : ends_refused i start_rows contribution_rows ≡ None → refusal i start_rows contribution_rows xs ≡ None
          granted h = or_none _ _ s ∙ or_none _ _ y ∙ or_none _ _ c ∙ or_none _ _ o ∙ h

-- the tables after the five steps hold what building gives
pub filled-outcome : (i : Image) (sections : List Section) (old_starts starts : List KnownStart) (start_count : ℕ) (old_rows rows : List Contribution) (row_count : ℕ) → Filled i sections old_starts starts start_count old_rows rows row_count → Outcome i (length old_starts) (length old_rows) (Ok (record { sections = sections; starts = take start_count starts; contributions = take row_count rows }))
filled-outcome i sections old_starts starts start_count old_rows rows row_count h = (h.granted, h.same, h.starts_hold.known, h.rows_filed.stands)

-- the symbols' refusal, by sections that are the image's
pub read-symbols : (i : Image) (start_rows contribution_rows : ℕ) (sections : List Section) (o : Option Refusal) → sections ≡ i.sections → o ≡ or_else (cond (ltb start_rows (offset_count (symbol_starts sections i.symbols))) (Some (StartTableFull ReadPublicSymbols)) None) (fault PublicSymbols i.symbols_end) → o ≡ symbols_refused i start_rows contribution_rows
read-symbols i start_rows contribution_rows sections o same e =
    e ∙ ap (λ ss. or_else (cond (ltb start_rows (offset_count (symbol_starts ss i.symbols))) (Some (StartTableFull ReadPublicSymbols)) None) (fault PublicSymbols i.symbols_end)) same

-- likewise the ends'
pub read_ends : (i : Image) (start_rows contribution_rows : ℕ) (sections : List Section) (o : Option Refusal) → sections ≡ i.sections → o ≡ cond (ltb start_rows (offset_count ((all_symbols i ++ contribution_starts (all_kept i)) ++ section_ends 1 sections))) (Some (StartTableFull AddSectionEnds)) None → o ≡ ends_refused i start_rows contribution_rows
read_ends i start_rows contribution_rows sections o same e =
    e ∙ ap (λ ss. cond (ltb start_rows (offset_count ((all_symbols i ++ contribution_starts (all_kept i)) ++ section_ends 1 ss))) (Some (StartTableFull AddSectionEnds)) None) same

pub none_made : {X : Type 0} (r : Result X Refusal) (y : Refusal) (P : X → Type 0) → r ≡ Err y → IfOk r P
none_made r y P e = subst (λ v. IfOk v P) (sym e) tt
