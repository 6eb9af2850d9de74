use Rattle.std.proofs.Common.{rules, ◌≡◌, ◌+◌, true, false, ◌++◌, length, take, Some, Ok, sym, refl, ap, ◌∙◌, subst, arith}
use Rattle.std.specs.Result.{result_err}
use Rattle.std.proofs.lemmas.Result.{err_from_is_err_and}
use Rattle.base.specs.Refusals.{or_refusal}
use Rattle.base.specs.declared.refusal.FaultyList.TheVariants.{Contributions}
use Rattle.building.specs.Starts.{keeps, kept, contribution_starts}
use Rattle.building.specs.Blocks.{blocks}
use Rattle.building.specs.Outcome.{all_symbols, all_kept, contribution_refusal}
use Rattle.building.specs.Filling.{Holds}
use Rattle.building.proofs.Items.{item_within, refused_item, refused_end, refused_fault, end_take, refused_here, refused_on, refused_none}
use Rattle.building.proofs.Outcomes.{or_some, or_none}
use Rattle.building.proofs.Reading.{reading-none, kept-more_by, counted_size, counted-refusal, kept_as_before, skipped_refusal}
use Rattle.steps.specs.Tables.{Reads, SameSlices, StayOrdered}
use Rattle.steps.proofs.tables.Filling.read_contributions.Given.{Over}
use Rattle.steps.proofs.tables.Filling.read_contributions.Goals as goal
use Rattle.steps.proofs.tables.Filling.read_contributions.Goals.{then-keeps+in_ok-block, else-keeps}

pub loop-item-init : goal.loop-item-init
loop-item-init g c =
    let i = g.S.ImageSource.image c.args.source.now in
    (omega arith, λ old rows same h f. (reading-none (all_symbols i) old _ _ rows _ _ h f, refl), ((refl, refl), (refl, refl)), (λ h. h, λ h. h))

pub returns-in_err-contribution-clause-refused : goal.returns-in_err-contribution-clause-refused
returns-in_err-contribution-clause-refused g c = λ old rows same h f.
    let i = g.S.ImageSource.image c.args.source.now in
    let answer = sym (c.refuse-answer.ensures ∙ ap (or_refusal Contributions) c.contribution.ensures) ∙ c.in_err-contribution.was in
    let end = refused_fault Contributions i.contributions i.contributions_end c.loop-item.item _ answer in
    let p = err_from_is_err_and c.from_residual.result c.from_residual.ensures.1 in
    ap result_err p.1 ∙ ap Some p.2 ∙
    sym (or_none _ _ (sym (c.loop-item.invariant.1 old rows same h f).1 ∙ refused_none (contribution_refusal i (length old) (length rows)) i.contributions c.loop-item.item end.0) ∙
    or_some _ _ _ end.1)

pub returns-in_default-clause-refused : goal.returns-in_default-clause-refused
returns-in_default-clause-refused g c = λ old rows same h f.
    let i = g.S.ImageSource.image c.args.source.now in
    let answer = sym (c.refuse-answer.ensures ∙ ap (or_refusal Contributions) c.contribution.ensures) ∙ c.in_ok-contribution.was ∙ ap Ok c.in_default.is in
    let end = refused_end Contributions i.contributions i.contributions_end c.loop-item.item answer in
    let inv = c.loop-item.invariant.1 old rows same h f in
    let r = subst (λ cs. Reads (all_symbols i) cs old rows c.loop-item.self) (ap (kept i.sections) (end_take i.contributions c.loop-item.item end.0)) inv.0 in
    c.close_newest.ensures.refused (blocks (all_kept i)) rows r.closed r.open_block ∙
    sym (or_none _ _ (sym inv.1 ∙ refused_none (contribution_refusal i (length old) (length rows)) i.contributions c.loop-item.item end.0) ∙
    or_none _ _ end.1)

pub returns-in_default-clause-read : goal.returns-in_default-clause-read
returns-in_default-clause-read g c = λ old rows same h f ok.
    let i = g.S.ImageSource.image c.args.source.now in
    let answer = sym (c.refuse-answer.ensures ∙ ap (or_refusal Contributions) c.contribution.ensures) ∙ c.in_ok-contribution.was ∙ ap Ok c.in_default.is in
    let end = refused_end Contributions i.contributions i.contributions_end c.loop-item.item answer in
    let inv = c.loop-item.invariant.1 old rows same h f in
    let r = subst (λ cs. Reads (all_symbols i) cs old rows c.loop-item.self) (ap (kept i.sections) (end_take i.contributions c.loop-item.item end.0)) inv.0 in (
      subst (λ t. Holds (all_symbols i ++ contribution_starts (all_kept i)) old t.rows.now t.count) (sym c.close_newest.ensures.starts) r.starts_hold,
      c.close_newest.ensures.closed (blocks (all_kept i)) rows r.closed r.open_block ok,
      r.proper,
    )

pub returns-in_err-block-clause-refused : goal.returns-in_err-block-clause-refused
returns-in_err-block-clause-refused g c = λ old rows same h f.
    let i = g.S.ImageSource.image c.args.source.now in
    let item = c.loop-item.item in
    let new = c.in-Some.contribution in
    let answer = sym (c.refuse-answer.ensures ∙ ap (or_refusal Contributions) c.contribution.ensures) ∙ c.in_ok-contribution.was ∙ ap Ok c.in-Some.is in
    let found = refused_item Contributions i.contributions i.contributions_end item new answer in
    let counts : keeps i.sections new ≡ true = subst (λ ss. keeps ss new ≡ true) same (sym c.keeps.ensures ∙ c.if-keeps.true) in
    let inv = c.loop-item.invariant.1 old rows same h f in
    let p = err_from_is_err_and c.from_residual-in_err-block.result c.from_residual-in_err-block.ensures.1 in
    ap result_err p.1 ∙ ap Some p.2 ∙
    sym (or_some _ _ _ (sym inv.1 ∙ refused_here (contribution_refusal i (length old) (length rows)) i.contributions item new _ found
    (counted-refusal i (length old) (length rows) item new found counts ∙ sym (c.in_err-block.ensures.refused (all_symbols i) _ old rows inv.0))))

pub loop-item-preserved : goal.loop-item-preserved
loop-item-preserved g c =
    let i = g.S.ImageSource.image c.args.source.now in
    let item = c.loop-item.item in
    let new = c.in-Some.contribution in
    let answer = sym (c.refuse-answer.ensures ∙ ap (or_refusal Contributions) c.contribution.ensures) ∙ c.in_ok-contribution.was ∙ ap Ok c.in-Some.is in
    let found = refused_item Contributions i.contributions i.contributions_end item new answer in
    let within = item_within i.contributions item new found in
    let before = c.loop-item.invariant in
    elim c.if-keeps.branch [
      | then-keeps+in_ok-block w ↦ (
        omega (arith, within),
        λ old rows same h f.
            let inv = before.1 old rows same h f in
            let counts : keeps i.sections new ≡ true = subst (λ ss. keeps ss new ≡ true) same (sym c.keeps.ensures ∙ w.if-keeps.true) in
            let read = w.in_ok-block.ensures.read (all_symbols i) (kept i.sections (take item i.contributions)) old rows inv.0 (counted_size i (length old) (length rows) item new found counts) in (
              subst (λ x. Reads (all_symbols i) (kept i.sections (take (item + 1) i.contributions)) old rows x) (sym w.self-is)
                  (subst (λ cs. Reads (all_symbols i) cs old rows (record { starts = w.next_block.new.self.starts; contributions = w.next_block.new.self.contributions; newest = Some w.in_ok-block.block })) (kept-more_by i (length old) (length rows) item new found counts) read),
              sym (refused_on (contribution_refusal i (length old) (length rows)) i.contributions item new found
                  (counted-refusal i (length old) (length rows) item new found counts ∙ sym (w.in_ok-block.ensures.refused (all_symbols i) _ old rows inv.0))) ∙ inv.1,
            ),
        subst (λ f. SameSlices c.args.self.now f) (sym w.self-is) (
          (w.next_block.ensures.slices.0.0 ∙ before.2.0.0, w.next_block.ensures.slices.0.1 ∙ before.2.0.1),
          (w.next_block.ensures.slices.1.0 ∙ before.2.1.0, w.next_block.ensures.slices.1.1 ∙ before.2.1.1),
        ),
        subst (λ f. StayOrdered c.args.self.now f) (sym w.self-is) (λ h. w.next_block.ensures.ordered.0 (before.3.0 h), λ h. w.next_block.ensures.ordered.1 (before.3.1 h)),
      )
      | else-keeps w ↦ (
        omega (arith, within),
        λ old rows same h f.
            let inv = before.1 old rows same h f in
            let skipped : keeps i.sections new ≡ false = subst (λ ss. keeps ss new ≡ false) same (sym c.keeps.ensures ∙ w.if-keeps.false) in (
              subst (λ x. Reads (all_symbols i) (kept i.sections (take (item + 1) i.contributions)) old rows x) (sym w.self-is)
                  (subst (λ cs. Reads (all_symbols i) cs old rows c.loop-item.self) (kept_as_before i (length old) (length rows) item new found skipped) inv.0),
              sym (refused_on (contribution_refusal i (length old) (length rows)) i.contributions item new found (skipped_refusal i (length old) (length rows) item new found skipped)) ∙ inv.1,
            ),
        subst (λ f. SameSlices c.args.self.now f) (sym w.self-is) before.2,
        subst (λ f. StayOrdered c.args.self.now f) (sym w.self-is) before.3,
      )
    ]

-- no list has an item for each number
beyond : (g : Over) → goal.Else-item-lt4294967295 g → ⊥
beyond g c =
    let i = g.S.ImageSource.image c.args.source.now in
    let answer = sym (c.refuse-answer.ensures ∙ ap (or_refusal Contributions) c.contribution.ensures) ∙ c.in_ok-contribution.was ∙ ap Ok c.in-Some.is in
    let within = item_within i.contributions c.loop-item.item c.in-Some.contribution (refused_item Contributions i.contributions i.contributions_end c.loop-item.item c.in-Some.contribution answer) in
    let few = (g.S.ImageSource.lawful c.args.source.now).few_contributions in
    search (rules, within, few)

pub returns-after-keeps-clause-refused : goal.returns-after-keeps-clause-refused
returns-after-keeps-clause-refused g c = absurd (beyond g c)

pub returns-after-keeps-clause-read : goal.returns-after-keeps-clause-read
returns-after-keeps-clause-read g c = absurd (beyond g c)
