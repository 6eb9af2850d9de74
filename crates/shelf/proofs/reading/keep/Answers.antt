use Rattle.std.proofs.Common.{◌≡◌, None, sym, ap, ◌∙◌, rules, arith}
use Rattle.lookup.specs.Reading.{with_kept}
use Rattle.shelf.proofs.Kept.{kept_is}
use Rattle.shelf.proofs.reading.keep.Goals as goal

pub returns-in_default-clause-kept : goal.returns-in_default-clause-kept
returns-in_default-clause-kept c ps h =
    let none : c.procedure_of.result ≡ None = grind arith in
    (ps, ap (with_kept c.args.module c.args.item ps) (sym (kept_is h c.args.item c.args.symbol) ∙ sym c.procedure_of.ensures ∙ none), h)

pub returns-then-ends_above_top-clause-kept : goal.returns-then-ends_above_top-clause-kept
returns-then-ends_above_top-clause-kept c ps h =
    let k = kept_is h c.args.item c.args.symbol in
    grind arith

pub returns-clause-kept : goal.returns-clause-kept
returns-clause-kept c ps h =
    let k = kept_is h c.args.item c.args.symbol in
    let f = c.insert.ensures.room ps h in
    let g = c.insert.ensures.added ps h in
    search rules
