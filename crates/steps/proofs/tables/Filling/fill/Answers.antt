use Rattle.std.proofs.Common.{◌≡◌, ℕ, ◌<◌, List, ◌++◌, length, IfErr, Err, Result, sym, refl, ap, ◌∙◌, subst}
use Rattle.std.proofs.lemmas.Result.{err_from_is_err_and}
use Rattle.base.specs.declared.image.Section.{Section}
use Rattle.base.specs.declared.context.KnownStart.{KnownStart}
use Rattle.base.specs.declared.refusal.Refusal.{Refusal}
use Rattle.image.specs.Image.{Image}
use Rattle.building.specs.Starts.{symbol_starts, contribution_starts, section_ends}
use Rattle.building.specs.Blocks.{blocks}
use Rattle.building.specs.Outcome.{Outcome, all_symbols, all_kept}
use Rattle.building.specs.Filling.{Holds}
use Rattle.building.proofs.Blocks.{apart_all, stands_all}
use Rattle.building.proofs.Outcomes.{read-symbols, read_ends, refused-sections, refused-symbols, refused-contributions, refused_overlap, refused_ends, granted}
use Rattle.sections.specs.Used.{used}
use Rattle.steps.proofs.tables.Filling.fill.Goals as goal

-- a refusal that is passed on
passed : {X : Type 0} (r : Result X Refusal) (y e : Refusal) (Q : Refusal → Type 0) → r ≡ Err y → y ≡ e → Q e → IfErr r Q
passed r y e Q p q h = subst (λ v. IfErr v Q) (sym (p ∙ ap Err q)) h

-- the sections that were read are the image's
all_held : (i : Image) (sections : List Section) → sections ≡ i.sections → (old rows : List KnownStart) (count : ℕ) → Holds (symbol_starts sections i.symbols) old rows count → Holds (all_symbols i) old rows count
all_held i sections same old rows count h = subst (λ ss. Holds (symbol_starts ss i.symbols) old rows count) same h

pub returns-in_err-sections-clause-refused : goal.returns-in_err-sections-clause-refused
returns-in_err-sections-clause-refused g c = λ old rows h.
    let i = g.S.ImageSource.image c.args.source.now in
    let p = err_from_is_err_and c.from_residual.result c.from_residual.ensures.1 in
    passed c.from_residual.result p.0 _ (λ e. Outcome i (length old) (length rows) (Err e)) p.1 p.2 (refused-sections i (length old) (length rows) _ (sym c.in_err-sections.ensures.refused))

pub returns-in_err-read_public_symbols-clause-refused : goal.returns-in_err-read_public_symbols-clause-refused
returns-in_err-read_public_symbols-clause-refused g c = λ old rows h.
    let i = g.S.ImageSource.image c.args.source.now in
    let s = c.in_ok-sections.sections in
    let same : used s ≡ i.sections = c.in_ok-sections.ensures.read in
    let r = c.from_residual-in_err-read_public_symbols.result in
    let p = err_from_is_err_and r c.from_residual-in_err-read_public_symbols.ensures.1 in
    passed r p.0 _ (λ e. Outcome i (length old) (length rows) (Err e)) p.1 p.2
    (refused-symbols i (length old) (length rows) (sym c.in_ok-sections.ensures.refused) _
    (sym (read-symbols i (length old) (length rows) (used s) _ same (c.in_err-read_public_symbols.ensures.refused old h.0))))

pub returns-in_err-read_contributions-clause-refused : goal.returns-in_err-read_contributions-clause-refused
returns-in_err-read_contributions-clause-refused g c = λ old rows h.
    let i = g.S.ImageSource.image c.args.source.now in
    let s = c.in_ok-sections.sections in
    let same : used s ≡ i.sections = c.in_ok-sections.ensures.read in
    let r = c.from_residual-in_err-read_contributions.result in
    let p = err_from_is_err_and r c.from_residual-in_err-read_contributions.ensures.1 in
    let held = all_held i (used s) same old _ _ (c.in_ok-read_public_symbols.ensures.read old h.0 refl) in
    passed r p.0 _ (λ e. Outcome i (length old) (length rows) (Err e)) p.1 p.2
    (refused-contributions i (length old) (length rows) (sym c.in_ok-sections.ensures.refused)
    (sym (read-symbols i (length old) (length rows) (used s) _ same (c.in_ok-read_public_symbols.ensures.refused old h.0))) _
    (sym (c.in_err-read_contributions.ensures.refused old rows same held h.1)))

pub returns-in_err-check_overlaps-clause-refused : goal.returns-in_err-check_overlaps-clause-refused
returns-in_err-check_overlaps-clause-refused g c = λ old rows h.
    let i = g.S.ImageSource.image c.args.source.now in
    let s = c.in_ok-sections.sections in
    let same : used s ≡ i.sections = c.in_ok-sections.ensures.read in
    let r = c.from_residual-in_err-check_overlaps.result in
    let p = err_from_is_err_and r c.from_residual-in_err-check_overlaps.ensures.1 in
    let held = all_held i (used s) same old _ _ (c.in_ok-read_public_symbols.ensures.read old h.0 refl) in
    passed r p.0 _ (λ e. Outcome i (length old) (length rows) (Err e)) p.1 p.2
    (refused_overlap i (length old) (length rows) (sym c.in_ok-sections.ensures.refused)
    (sym (read-symbols i (length old) (length rows) (used s) _ same (c.in_ok-read_public_symbols.ensures.refused old h.0)))
    (sym (c.in_ok-read_contributions.ensures.refused old rows same held h.1)) _
    (c.in_ok-read_contributions.ensures.read old rows same held h.1 refl).1.stands _
    (sym c.in_err-check_overlaps.ensures))

pub returns-in_err-add_section_ends-clause-refused : goal.returns-in_err-add_section_ends-clause-refused
returns-in_err-add_section_ends-clause-refused g c = λ old rows h.
    let i = g.S.ImageSource.image c.args.source.now in
    let s = c.in_ok-sections.sections in
    let same : used s ≡ i.sections = c.in_ok-sections.ensures.read in
    let r = c.from_residual-in_err-add_section_ends.result in
    let p = err_from_is_err_and r c.from_residual-in_err-add_section_ends.ensures.1 in
    let held = all_held i (used s) same old _ _ (c.in_ok-read_public_symbols.ensures.read old h.0 refl) in
    let read = c.in_ok-read_contributions.ensures.read old rows same held h.1 refl in
    passed r p.0 _ (λ e. Outcome i (length old) (length rows) (Err e)) p.1 p.2
    (refused_ends i (length old) (length rows) (sym c.in_ok-sections.ensures.refused)
    (sym (read-symbols i (length old) (length rows) (used s) _ same (c.in_ok-read_public_symbols.ensures.refused old h.0)))
    (sym (c.in_ok-read_contributions.ensures.refused old rows same held h.1)) _
    read.1.stands (sym c.in_ok-check_overlaps.ensures) _
    (sym (read_ends i (length old) (length rows) (used s) _ same (c.in_err-add_section_ends.ensures.refused _ old read.0))))

pub returns-clause-filled : goal.returns-clause-filled
returns-clause-filled g c = λ old rows h.
    let i = g.S.ImageSource.image c.args.source.now in
    let s = c.in_ok-sections.sections in
    let same : used s ≡ i.sections = c.in_ok-sections.ensures.read in
    let ended = c.add_section_ends.new.starts in
    let held = all_held i (used s) same old _ _ (c.in_ok-read_public_symbols.ensures.read old h.0 refl) in
    let read = c.in_ok-read_contributions.ensures.read old rows same held h.1 refl in
    let none = sym c.in_ok-check_overlaps.ensures in
    record {
      same = same;
      starts_hold = subst (λ ss. Holds ((all_symbols i ++ contribution_starts (all_kept i)) ++ section_ends 1 ss) old ended.rows.now ended.count) same (c.in_ok-add_section_ends.ensures.added _ old read.0 refl);
      rows_filed = read.1;
      granted = granted i (length old) (length rows) (sym c.in_ok-sections.ensures.refused)
          (sym (read-symbols i (length old) (length rows) (used s) _ same (c.in_ok-read_public_symbols.ensures.refused old h.0)))
          (sym (c.in_ok-read_contributions.ensures.refused old rows same held h.1)) _
          read.1.stands none
          (sym (read_ends i (length old) (length rows) (used s) _ same (c.in_ok-add_section_ends.ensures.refused _ old read.0)));
      rows_apart = apart_all _ read.1.stands.in_order none (stands_all (λ b. b.start < b.end) (blocks (all_kept i)) _ read.1.stands read.2);
    }
