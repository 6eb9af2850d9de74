use Rattle.std.proofs.Common.{◌≡◌, ◌+◌, ◌<◌, ◌≤◌, ℕ, List, false, cond, ltb, ◌++◌, ◌∷◌, [], length, take, get_or, Some, None, refl, ap, ◌∙◌, sym, subst, arith}
use Rattle.std.specs.List.{slice_get}
use Rattle.std.specs.Result.{result_err}
use Rattle.std.proofs.lemmas.List.{take_all}
use Rattle.std.proofs.lemmas.Option.{slice_get-get_or}
use Rattle.std.proofs.lemmas.Result.{err_from_is_err_and}
use Rattle.base.specs.Rows.{start_rank}
use Rattle.table.specs.Slice.{SameSlice}
use Rattle.base.specs.declared.image.Section.{Section}
use Rattle.base.specs.declared.refusal.Refusal.TheVariants.{StartTableFull}
use Rattle.base.specs.declared.refusal.Step.TheVariants.{AddSectionEnds}
use Rattle.building.specs.Starts.{section_ends, offset_count}
use Rattle.building.specs.Filling.{Holds}
use Rattle.building.proofs.Sections.{ends_kept, ends_skipped, ends_full}
use Rattle.sections.specs.Used.{used}
use Rattle.starts.specs.Order.{StaysOrdered}
use Rattle.starts.proofs.add_section_ends.Goals as goal
use Rattle.starts.proofs.add_section_ends.Goals.{then-section+in_ok-add_start, else-section}

abbrev none : Section
none = record { address = 0; size = 0; executable = false }

-- the section at an index of the used ones
at_index : (sections lent : List Section) (k : ℕ) → lent ≡ sections → k < length lent → slice_get sections k ≡ Some (get_or lent k none)
at_index sections lent k e l = subst (λ xs. slice_get xs k ≡ Some (get_or lent k none)) e (slice_get-get_or lent k none l)

pub returns-in_err-add_start-clause-refused : goal.returns-in_err-add_start-clause-refused
returns-in_err-add_start-clause-refused c = λ cs old h.
    let sections = used c.args.sections.now in
    let lent = c.used-section-items.result.now in
    let k = c.loop-index.index in
    let found = at_index sections lent k c.used-section-items.ensures c.loop-index-test.true in
    let p = err_from_is_err_and c.from_residual.result c.from_residual.ensures.1 in
    ap result_err p.1 ∙ ap Some p.2 ∙
    ends_full cs sections k (get_or lent k none) found c.if-section.true (length old) _ (StartTableFull AddSectionEnds)
    (subst (λ x. Some c.in_err-add_start.field-0.0 ≡ cond (ltb (length old) (offset_count ((cs ++ section_ends 1 (take k sections)) ++ x ∷ []))) (Some (StartTableFull AddSectionEnds)) None) c.from.ensures
    (c.in_err-add_start.ensures.refused (cs ++ section_ends 1 (take k sections)) old (c.loop-index.invariant.1 cs old h)))

pub loop-index-preserved : goal.loop-index-preserved
loop-index-preserved c =
    let sections = used c.args.sections.now in
    let lent = c.used-section-items.result.now in
    let k = c.loop-index.index in
    let found = at_index sections lent k c.used-section-items.ensures c.loop-index-test.true in
    let within : k + 1 ≤ length sections = subst (λ xs. k + 1 ≤ length xs) c.used-section-items.ensures (omega (arith, c.loop-index-test.true)) in
    elim c.if-section.branch [
      | then-section+in_ok-add_start w ↦ (
        within,
        λ cs old h.
            let added = w.in_ok-add_start.ensures.added (cs ++ section_ends 1 (take k sections)) old (c.loop-index.invariant.1 cs old h) refl in
            subst (λ t. Holds (cs ++ section_ends 1 (take (k + 1) sections)) old t.rows.now t.count) (sym w.starts-is)
            (subst (λ ss. Holds ss old w.add_start.new.starts.rows.now w.add_start.new.starts.count) (ends_kept cs sections k (get_or lent k none) found w.if-section.true)
            (subst (λ x. Holds ((cs ++ section_ends 1 (take k sections)) ++ x ∷ []) old w.add_start.new.starts.rows.now w.add_start.new.starts.count) w.from.ensures added)),
        subst (λ t. SameSlice c.args.starts.now t) (sym w.starts-is) (w.add_start.ensures.slice.0 ∙ c.loop-index.invariant.2.0, w.add_start.ensures.slice.1 ∙ c.loop-index.invariant.2.1),
        subst (λ t. StaysOrdered start_rank c.args.starts.now t) (sym w.starts-is) (λ h. w.add_start.ensures.ordered (c.loop-index.invariant.3 h)),
      )
      | else-section w ↦ (
        within,
        λ cs old h.
            subst (λ t. Holds (cs ++ section_ends 1 (take (k + 1) sections)) old t.rows.now t.count) (sym w.starts-is)
            (subst (λ ss. Holds ss old c.loop-index.starts.rows.now c.loop-index.starts.count) (ends_skipped cs sections k (get_or lent k none) found w.if-section.false) (c.loop-index.invariant.1 cs old h)),
        subst (λ t. SameSlice c.args.starts.now t) (sym w.starts-is) c.loop-index.invariant.2,
        subst (λ t. StaysOrdered start_rank c.args.starts.now t) (sym w.starts-is) c.loop-index.invariant.3,
      )
    ]

pub returns-clause-added : goal.returns-clause-added
returns-clause-added c = λ cs old h _.
    let sections = used c.args.sections.now in
    let past : length sections ≤ c.loop-index.index = subst (λ xs. length xs ≤ c.loop-index.index) c.used-section-items.ensures (omega (arith, c.loop-index-test.false)) in
    subst (λ ss. Holds (cs ++ section_ends 1 ss) old c.loop-index.starts.rows.now c.loop-index.starts.count) (take_all c.loop-index.index sections past) (c.loop-index.invariant.1 cs old h)
