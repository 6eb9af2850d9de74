use Rattle.std.proofs.Common.{rules, ℕ, Option, cond, ltb, ◌≡◌, ◌+◌, List, [], ◌∷◌, ◌++◌, length, take, Some, None, Ok, sym, refl, ap, ◌∙◌, subst, arith}
use Rattle.std.specs.List.{slice_get}
use Rattle.std.specs.Result.{result_err}
use Rattle.std.proofs.lemmas.Result.{err_from_is_err_and}
use Rattle.base.specs.Refusals.{or_refusal}
use Rattle.base.specs.declared.image.Section.{Section}
use Rattle.base.specs.declared.image.PublicSymbol.{PublicSymbol}
use Rattle.base.specs.declared.refusal.Refusal.{Refusal}
use Rattle.base.specs.declared.context.KnownStart.{KnownStart as Start}
use Rattle.base.specs.declared.refusal.Refusal.TheVariants.{StartTableFull}
use Rattle.base.specs.declared.refusal.Step.TheVariants.{ReadPublicSymbols}
use Rattle.base.specs.declared.refusal.FaultyList.TheVariants.{PublicSymbols}
use Rattle.base.specs.Rows.{start_rank}
use Rattle.table.specs.Slice.{SameSlice}
use Rattle.building.specs.Starts.{symbol_starts, offset_count, or_else}
use Rattle.building.specs.Outcome.{fault}
use Rattle.building.specs.Filling.{Holds}
use Rattle.building.proofs.Items.{item_within, refused_item, refused_end, refused_fault, end_take}
use Rattle.building.proofs.Outcomes.{or_none}
use Rattle.building.proofs.Symbols.{symbol_kept, symbol_skipped, symbol_full, holds-room}
use Rattle.sections.specs.Used.{used}
use Rattle.starts.specs.Order.{StaysOrdered}
use Rattle.starts.proofs.read_public_symbols.Given.{Over}
use Rattle.starts.proofs.read_public_symbols.Goals as goal
use Rattle.starts.proofs.read_public_symbols.Goals.{then-executable+in_ok-add_start, else-executable}

-- the whole list has been read
module _ (sections : List Section) (symbols : List PublicSymbol) (item : ℕ) (past : slice_get symbols item ≡ None) (old rows : List Start) (count : ℕ) (h : Holds (symbol_starts sections (take item symbols)) old rows count) where
  whole : Holds (symbol_starts sections symbols) old rows count
  whole = subst (λ ps. Holds (symbol_starts sections ps) old rows count) (end_take symbols item past) h

  room : (o : Option Refusal) → o ≡ or_else (cond (ltb (length old) (offset_count (symbol_starts sections symbols))) (Some (StartTableFull ReadPublicSymbols)) None) o
  room o = sym (or_none _ _ (sym (holds-room (symbol_starts sections symbols) old rows count (StartTableFull ReadPublicSymbols) whole)))

pub returns-in_err-symbol-clause-refused : goal.returns-in_err-symbol-clause-refused
returns-in_err-symbol-clause-refused g c = λ old h.
    let i = g.S.ImageSource.image c.args.source.now in
    let answer = sym (c.refuse-answer.ensures ∙ ap (or_refusal PublicSymbols) c.public_symbol.ensures) ∙ c.in_err-symbol.was in
    let end = refused_fault PublicSymbols i.symbols i.symbols_end c.loop-item.item _ answer in
    let p = err_from_is_err_and c.from_residual.result c.from_residual.ensures.1 in
    ap result_err p.1 ∙ ap Some p.2 ∙ sym end.1 ∙ room (used c.args.sections.now) i.symbols c.loop-item.item end.0 old c.loop-item.starts.rows.now c.loop-item.starts.count (c.loop-item.invariant.1 old h) (fault PublicSymbols i.symbols_end)

pub returns-in_err-add_start-clause-refused : goal.returns-in_err-add_start-clause-refused
returns-in_err-add_start-clause-refused g c = λ old h.
    let i = g.S.ImageSource.image c.args.source.now in
    let sections = used c.args.sections.now in
    let answer = sym (c.refuse-answer.ensures ∙ ap (or_refusal PublicSymbols) c.public_symbol.ensures) ∙ c.in_ok-symbol.was ∙ ap Ok c.in-Some.is in
    let found = refused_item PublicSymbols i.symbols i.symbols_end c.loop-item.item c.in-Some.symbol answer in
    let runs = sym c.executable.ensures ∙ c.if-executable.true in
    let p = err_from_is_err_and c.from_residual-in_err-add_start.result c.from_residual-in_err-add_start.ensures.1 in
    ap result_err p.1 ∙ ap Some p.2 ∙
    symbol_full sections i.symbols c.loop-item.item c.in-Some.symbol found runs (length old) _ (StartTableFull ReadPublicSymbols) _
    (subst (λ x. Some c.in_err-add_start.field-0.0 ≡ cond (ltb (length old) (offset_count (symbol_starts sections (take c.loop-item.item i.symbols) ++ x ∷ []))) (Some (StartTableFull ReadPublicSymbols)) None) c.from.ensures
    (c.in_err-add_start.ensures.refused (symbol_starts sections (take c.loop-item.item i.symbols)) old (c.loop-item.invariant.1 old h)))

pub loop-item-preserved : goal.loop-item-preserved
loop-item-preserved g c =
    let i = g.S.ImageSource.image c.args.source.now in
    let sections = used c.args.sections.now in
    let item = c.loop-item.item in
    let answer = sym (c.refuse-answer.ensures ∙ ap (or_refusal PublicSymbols) c.public_symbol.ensures) ∙ c.in_ok-symbol.was ∙ ap Ok c.in-Some.is in
    let found = refused_item PublicSymbols i.symbols i.symbols_end item c.in-Some.symbol answer in
    let within = item_within i.symbols item c.in-Some.symbol found in
    let before = c.loop-item.invariant.1 in
    elim c.if-executable.branch [
      | then-executable+in_ok-add_start w ↦ (
        omega (arith, within),
        λ old h.
            let runs = sym c.executable.ensures ∙ w.if-executable.true in
            let added = w.in_ok-add_start.ensures.added (symbol_starts sections (take item i.symbols)) old (before old h) refl in
            subst (λ t. Holds (symbol_starts sections (take (item + 1) i.symbols)) old t.rows.now t.count) (sym w.starts-is)
            (subst (λ ss. Holds ss old w.add_start.new.starts.rows.now w.add_start.new.starts.count) (symbol_kept sections i.symbols item c.in-Some.symbol found runs)
            (subst (λ x. Holds (symbol_starts sections (take item i.symbols) ++ x ∷ []) old w.add_start.new.starts.rows.now w.add_start.new.starts.count) w.from.ensures added)),
        subst (λ t. SameSlice c.args.starts.now t) (sym w.starts-is) (w.add_start.ensures.slice.0 ∙ c.loop-item.invariant.2.0, w.add_start.ensures.slice.1 ∙ c.loop-item.invariant.2.1),
        subst (λ t. StaysOrdered start_rank c.args.starts.now t) (sym w.starts-is) (λ h. w.add_start.ensures.ordered (c.loop-item.invariant.3 h)),
      )
      | else-executable w ↦ (
        omega (arith, within),
        λ old h.
            let runs = sym c.executable.ensures ∙ w.if-executable.false in
            subst (λ t. Holds (symbol_starts sections (take (item + 1) i.symbols)) old t.rows.now t.count) (sym w.starts-is)
            (subst (λ ss. Holds ss old c.loop-item.starts.rows.now c.loop-item.starts.count) (symbol_skipped sections i.symbols item c.in-Some.symbol found runs) (before old h)),
        subst (λ t. SameSlice c.args.starts.now t) (sym w.starts-is) c.loop-item.invariant.2,
        subst (λ t. StaysOrdered start_rank c.args.starts.now t) (sym w.starts-is) c.loop-item.invariant.3,
      )
    ]

pub returns-in_default-clause-refused : goal.returns-in_default-clause-refused
returns-in_default-clause-refused g c = λ old h.
    let i = g.S.ImageSource.image c.args.source.now in
    let answer = sym (c.refuse-answer.ensures ∙ ap (or_refusal PublicSymbols) c.public_symbol.ensures) ∙ c.in_ok-symbol.was ∙ ap Ok c.in_default.is in
    let end = refused_end PublicSymbols i.symbols i.symbols_end c.loop-item.item answer in
    sym end.1 ∙ room (used c.args.sections.now) i.symbols c.loop-item.item end.0 old c.loop-item.starts.rows.now c.loop-item.starts.count (c.loop-item.invariant.1 old h) (fault PublicSymbols i.symbols_end)

pub returns-in_default-clause-read : goal.returns-in_default-clause-read
returns-in_default-clause-read g c = λ old h _.
    let i = g.S.ImageSource.image c.args.source.now in
    let answer = sym (c.refuse-answer.ensures ∙ ap (or_refusal PublicSymbols) c.public_symbol.ensures) ∙ c.in_ok-symbol.was ∙ ap Ok c.in_default.is in
    let end = refused_end PublicSymbols i.symbols i.symbols_end c.loop-item.item answer in
    whole (used c.args.sections.now) i.symbols c.loop-item.item end.0 old c.loop-item.starts.rows.now c.loop-item.starts.count (c.loop-item.invariant.1 old h)

-- no list has an item for each number
beyond : (g : Over) → goal.Else-item-lt4294967295 g → ⊥
beyond g c =
    let i = g.S.ImageSource.image c.args.source.now in
    let answer = sym (c.refuse-answer.ensures ∙ ap (or_refusal PublicSymbols) c.public_symbol.ensures) ∙ c.in_ok-symbol.was ∙ ap Ok c.in-Some.is in
    let within = item_within i.symbols c.loop-item.item c.in-Some.symbol (refused_item PublicSymbols i.symbols i.symbols_end c.loop-item.item c.in-Some.symbol answer) in
    let few = (g.S.ImageSource.lawful c.args.source.now).few_symbols in
    search (rules, within, few)

pub returns-after-executable-clause-refused : goal.returns-after-executable-clause-refused
returns-after-executable-clause-refused g c = absurd (beyond g c)

pub returns-after-executable-clause-read : goal.returns-after-executable-clause-read
returns-after-executable-clause-read g c = absurd (beyond g c)
