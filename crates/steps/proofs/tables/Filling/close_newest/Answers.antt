use Rattle.std.proofs.Common.{◌≡◌, cond, ltb, List, [], ◌∷◌, length, drop, Some, None, sym, refl, ap, ◌∙◌, subst, arith}
use Rattle.std.specs.List.{slice_get}
use Rattle.std.proofs.lemmas.Bool.{cond-false, le-ltb}
use Rattle.base.specs.declared.context.Contribution.{Contribution}
use Rattle.base.specs.declared.refusal.Refusal.TheVariants.{ContributionTableFull}
use Rattle.building.specs.Filling.{Filed}
use Rattle.building.proofs.Reading.{newest_some, newest_none}
use Rattle.steps.proofs.tables.Filling.close_newest.Goals as goal

pub returns-in-Some : goal.returns-in-Some
returns-in-Some c =
    let split : (bs : List Contribution) → c.args.self.now.newest ≡ slice_get bs 0 → bs ≡ c.in-Some.block ∷ drop 1 bs = λ bs e. newest_some bs c.in-Some.block (sym c.in-Some.is ∙ e) in
    record {
      refused = λ bs old h e. c.close_block.ensures.refused (drop 1 bs) old h ∙ ap (λ l. cond (ltb (length old) (length l)) (Some ContributionTableFull) None) (sym (split bs e));
      closed = λ bs old h e ok. subst (λ l. Filed l old c.close_block.new.contributions.rows.now c.close_block.new.contributions.count) (sym (split bs e)) (c.close_block.ensures.added (drop 1 bs) old h ok);
      starts = refl;
      slice = c.close_block.ensures.slice;
      ordered = c.close_block.ensures.ordered;
    }

pub returns-in-None : goal.returns-in-None
returns-in-None c =
    let none : (bs : List Contribution) → c.args.self.now.newest ≡ slice_get bs 0 → bs ≡ [] = λ bs e. newest_none bs (sym c.in-None.is ∙ e) in
    record {
      refused = λ bs old h e. subst (λ l. None ≡ cond (ltb (length old) (length l)) (Some ContributionTableFull) None) (sym (none bs e)) (sym (cond-false _ _ _ (le-ltb (length old) 0 (omega arith))));
      closed = λ bs old h e ok. subst (λ l. Filed l old c.args.self.now.contributions.rows.now c.args.self.now.contributions.count) (sym (none bs e)) (subst (λ l. Filed (drop 1 l) old c.args.self.now.contributions.rows.now c.args.self.now.contributions.count) (none bs e) h);
      starts = refl;
      slice = (refl, refl);
      ordered = λ h. h;
    }
