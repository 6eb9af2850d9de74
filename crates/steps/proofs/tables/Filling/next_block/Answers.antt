use Rattle.std.proofs.Common.{◌≡◌, ℕ, cond, ltb, List, [], ◌∷◌, ◌++◌, Option, Some, None, Err, Result, sym, refl, ap, ◌∙◌, subst}
use Rattle.std.specs.Result.{result_err}
use Rattle.std.proofs.lemmas.Result.{IfOk-weaker, err_from_is_err_and}
use Rattle.base.specs.declared.context.KnownStart.{KnownStart}
use Rattle.base.specs.declared.refusal.Refusal.{Refusal}
use Rattle.base.specs.declared.refusal.Refusal.TheVariants.{StartTableFull}
use Rattle.base.specs.declared.refusal.Step.TheVariants.{ReadContributions}
use Rattle.building.specs.Starts.{offset_count}
use Rattle.building.specs.Blocks.{block, grown}
use Rattle.building.specs.Filling.{Holds, Reading}
use Rattle.building.proofs.Outcomes.{none_made}
use Rattle.building.proofs.Reading.{made_since, first-refused, first_read, later_full, later_no_room, later_opened, later_joined, joined_start, joined_read, opened_read}
use Rattle.steps.proofs.tables.Filling.next_block.Goals as goal

-- what a failed call passes on
passed : {X : Type 0} (r : Result X Refusal) (y e : Refusal) → r ≡ Err y → y ≡ e → result_err r ≡ Some e
passed r y e p q = ap result_err p ∙ ap Some q

-- the start that is added is the unnamed one at the offset
module _ (x y : KnownStart) (same : x ≡ y) (ss : List KnownStart) where
  full_of : (n : ℕ) (o : Option Refusal) → o ≡ cond (ltb n (offset_count (ss ++ x ∷ []))) (Some (StartTableFull ReadContributions)) None → o ≡ cond (ltb n (offset_count (ss ++ y ∷ []))) (Some (StartTableFull ReadContributions)) None
  full_of n o h = h ∙ ap (λ v. cond (ltb n (offset_count (ss ++ v ∷ []))) (Some (StartTableFull ReadContributions)) None) same

  held_of : (old rows : List KnownStart) (count : ℕ) → Holds (ss ++ x ∷ []) old rows count → Holds (ss ++ y ∷ []) old rows count
  held_of old rows count h = subst (λ v. Holds (ss ++ v ∷ []) old rows count) same h

pub returns-in_default : goal.returns-in_default
returns-in_default c =
    let s = c.args.self.now.starts in
    let t = c.args.self.now.contributions in
    let new = c.args.new.now in
    record {
      refused = λ symbols cs old rows h.
          c.open_block.ensures.refused ∙ sym (first-refused symbols cs old s.rows.now s.count rows t.rows.now t.count c.args.item new (subst (Reading symbols cs old s.rows.now s.count rows t.rows.now t.count) c.in_default.is h));
      read = λ symbols cs old rows h size.
          IfOk-weaker c.open_block.result (λ b. b ≡ block new) _
          (λ b e. subst (λ v. Reading symbols (cs ++ new ∷ []) old s.rows.now s.count rows t.rows.now t.count (Some v)) (sym e)
          (first_read symbols cs old s.rows.now s.count rows t.rows.now t.count c.args.item new (subst (Reading symbols cs old s.rows.now s.count rows t.rows.now t.count) c.in_default.is h) size))
          c.open_block.ensures.opened;
      slices = ((refl, refl), (refl, refl));
      ordered = (λ h. h, λ h. h);
    }

pub returns-in_err-add_start : goal.returns-in_err-add_start
returns-in_err-add_start c =
    let s = c.args.self.now.starts in
    let t = c.args.self.now.contributions in
    let p = err_from_is_err_and c.from_residual.result c.from_residual.ensures.1 in
    record {
      refused = λ symbols cs old rows h.
          let h' : Reading symbols cs old s.rows.now s.count rows t.rows.now t.count (Some c.in-Some.block) = subst (Reading symbols cs old s.rows.now s.count rows t.rows.now t.count) c.in-Some.is h in
          passed c.from_residual.result p.0 _ p.1 p.2 ∙
          later_full symbols cs old s.rows.now s.count rows t.rows.now t.count c.args.item c.args.new.now c.in-Some.block h' _
          (full_of _ _ c.from.ensures _ _ _ (c.in_err-add_start.ensures.refused _ old h'.starts_hold));
      read = λ symbols cs old rows h size. none_made c.from_residual.result p.0 _ p.1;
      slices = (c.add_start.ensures.slice, (refl, refl));
      ordered = (c.add_start.ensures.ordered, λ h. h);
    }

pub returns-then-joins : goal.returns-then-joins
returns-then-joins c =
    let s = c.args.self.now.starts in
    let t = c.args.self.now.contributions in
    let new = c.args.new.now in
    let b = c.in-Some.block in
    let joined = sym c.joins.ensures ∙ c.if-joins.true in
    record {
      refused = λ symbols cs old rows h.
          let h' : Reading symbols cs old s.rows.now s.count rows t.rows.now t.count (Some b) = subst (Reading symbols cs old s.rows.now s.count rows t.rows.now t.count) c.in-Some.is h in
          later_joined symbols cs old s.rows.now s.count rows t.rows.now t.count c.args.item new b h' (result_err c.extend_block.result)
          (full_of _ _ c.from.ensures _ _ _ (c.in_ok-add_start.ensures.refused _ old h'.starts_hold)) joined c.extend_block.ensures.refused;
      read = λ symbols cs old rows h size.
          let h' : Reading symbols cs old s.rows.now s.count rows t.rows.now t.count (Some b) = subst (Reading symbols cs old s.rows.now s.count rows t.rows.now t.count) c.in-Some.is h in
          made_since c.extend_block.result _ (λ x. x ≡ grown b new) _ c.extend_block.ensures.refused c.extend_block.ensures.grown
          (λ x none e.
          subst (λ v. Reading symbols (cs ++ new ∷ []) old c.add_start.new.starts.rows.now c.add_start.new.starts.count rows t.rows.now t.count (Some v)) (sym e)
          (joined_read symbols cs old s.rows.now s.count rows t.rows.now t.count c.args.item new b h' _ _
          (held_of _ _ c.from.ensures _ _ _ _ (c.in_ok-add_start.ensures.added _ old h'.starts_hold refl)) joined size
          (joined_start symbols cs old s.rows.now s.count rows t.rows.now t.count c.args.item new b h' none)));
      slices = (c.add_start.ensures.slice, (refl, refl));
      ordered = (c.add_start.ensures.ordered, λ h. h);
    }

pub returns-in_err-close_block : goal.returns-in_err-close_block
returns-in_err-close_block c =
    let s = c.args.self.now.starts in
    let t = c.args.self.now.contributions in
    let new = c.args.new.now in
    let b = c.in-Some.block in
    let apart = sym c.joins.ensures ∙ c.if-joins.false in
    let p = err_from_is_err_and c.from_residual-in_err-close_block.result c.from_residual-in_err-close_block.ensures.1 in
    record {
      refused = λ symbols cs old rows h.
          let h' : Reading symbols cs old s.rows.now s.count rows t.rows.now t.count (Some b) = subst (Reading symbols cs old s.rows.now s.count rows t.rows.now t.count) c.in-Some.is h in
          passed c.from_residual-in_err-close_block.result p.0 _ p.1 p.2 ∙
          later_no_room symbols cs old s.rows.now s.count rows t.rows.now t.count c.args.item new b h' _
          (full_of _ _ c.from.ensures _ _ _ (c.in_ok-add_start.ensures.refused _ old h'.starts_hold)) apart
          (c.in_err-close_block.ensures.refused _ rows h'.closed);
      read = λ symbols cs old rows h size. none_made c.from_residual-in_err-close_block.result p.0 _ p.1;
      slices = (c.add_start.ensures.slice, c.close_block.ensures.slice);
      ordered = (c.add_start.ensures.ordered, c.close_block.ensures.ordered);
    }

pub returns : goal.returns
returns c =
    let s = c.args.self.now.starts in
    let t = c.args.self.now.contributions in
    let new = c.args.new.now in
    let b = c.in-Some.block in
    let apart = sym c.joins.ensures ∙ c.if-joins.false in
    record {
      refused = λ symbols cs old rows h.
          let h' : Reading symbols cs old s.rows.now s.count rows t.rows.now t.count (Some b) = subst (Reading symbols cs old s.rows.now s.count rows t.rows.now t.count) c.in-Some.is h in
          later_opened symbols cs old s.rows.now s.count rows t.rows.now t.count c.args.item new b h' (result_err c.open_block-2.result)
          (full_of _ _ c.from.ensures _ _ _ (c.in_ok-add_start.ensures.refused _ old h'.starts_hold)) apart
          (c.in_ok-close_block.ensures.refused _ rows h'.closed) c.open_block-2.ensures.refused;
      read = λ symbols cs old rows h size.
          let h' : Reading symbols cs old s.rows.now s.count rows t.rows.now t.count (Some b) = subst (Reading symbols cs old s.rows.now s.count rows t.rows.now t.count) c.in-Some.is h in
          IfOk-weaker c.open_block-2.result (λ x. x ≡ block new) _
          (λ x e.
          subst (λ v. Reading symbols (cs ++ new ∷ []) old c.add_start.new.starts.rows.now c.add_start.new.starts.count rows c.close_block.new.contributions.rows.now c.close_block.new.contributions.count (Some v)) (sym e)
          (opened_read symbols cs old s.rows.now s.count rows t.rows.now t.count c.args.item new b h' _ _ _ _
          (held_of _ _ c.from.ensures _ _ _ _ (c.in_ok-add_start.ensures.added _ old h'.starts_hold refl))
          (c.in_ok-close_block.ensures.added _ rows h'.closed refl) apart size))
          c.open_block-2.ensures.opened;
      slices = (c.add_start.ensures.slice, c.close_block.ensures.slice);
      ordered = (c.add_start.ensures.ordered, c.close_block.ensures.ordered);
    }
