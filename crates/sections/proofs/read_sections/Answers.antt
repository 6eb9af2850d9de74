use Rattle.std.proofs.Common.{rules, ◌≡◌, ◌+◌, ◌++◌, [], ◌∷◌, take, drop, Some, sym, ap, ◌∙◌, arith}
use Rattle.std.specs.List.{slice_get}
use Rattle.building.specs.Outcome.{first_refusal, section_refusal}
use Rattle.building.proofs.Items.{item_take, item_within, refused_here, refused_on, refused_none, end_take}
use Rattle.sections.specs.Used.{used}
use Rattle.sections.proofs.read_sections.Goals as goal

pub loop-section-init : goal.loop-section-init
loop-section-init g c =
    let sections = (g.S.ImageSource.image c.args.source.now).sections in
    let zero = c.empty-sections.ensures.count in (
      c.empty-sections.ensures.none ∙ ap (λ n. take n sections) (sym zero),
      omega (arith, zero),
      ap (λ n. first_refusal section_refusal n (drop n sections)) zero,
    )

pub loop-section-smaller : goal.loop-section-smaller
loop-section-smaller g c =
    let sections = (g.S.ImageSource.image c.args.source.now).sections in
    let within = item_within sections c.loop-section.sections.count c.in-Some.section (sym c.in-Some.ensures) in
    omega (arith, within, c.in_ok-push.ensures.counted)

pub loop-section-preserved : goal.loop-section-preserved
loop-section-preserved g c =
    let sections = (g.S.ImageSource.image c.args.source.now).sections in
    let item = c.loop-section.sections.count in
    let section = c.in-Some.section in
    let found : slice_get sections item ≡ Some section = sym c.in-Some.ensures in
    let more = c.in_ok-push.ensures.counted in
    let taken : used c.loop-section.sections ++ section ∷ [] ≡ take (item + 1) sections =
    ap (λ xs. xs ++ section ∷ []) c.loop-section.invariant.0 ∙ sym (item_take sections item section found) in
    let within = item_within sections item section found in (
      c.in_ok-push.ensures.pushed ∙ taken ∙ ap (λ n. take n sections) (sym more),
      omega (arith, within, more),
      ap (λ n. first_refusal section_refusal n (drop n sections)) more ∙ sym (refused_on section_refusal sections item section found (sym c.in_ok-push.ensures.refused)) ∙ c.loop-section.invariant.2,
    )

pub returns-in_err-push-clause-refused : goal.returns-in_err-push-clause-refused
returns-in_err-push-clause-refused g c =
    let sections = (g.S.ImageSource.image c.args.source.now).sections in
    let here = refused_here section_refusal sections c.loop-section.sections.count c.in-Some.section _ (sym c.in-Some.ensures) (sym c.in_err-push.ensures.refused) in
    let all = sym here ∙ c.loop-section.invariant.2 in
    search (rules, all)

pub returns-clause-refused : goal.returns-clause-refused
returns-clause-refused g c =
    let sections = (g.S.ImageSource.image c.args.source.now).sections in
    sym (refused_none section_refusal sections c.loop-section.sections.count (sym c.in_default.ensures)) ∙ c.loop-section.invariant.2

pub returns-clause-read : goal.returns-clause-read
returns-clause-read g c =
    let sections = (g.S.ImageSource.image c.args.source.now).sections in
    c.loop-section.invariant.0 ∙ end_take sections c.loop-section.sections.count (sym c.in_default.ensures)
