use Rattle.std.proofs.Common.{rules, ◌≡◌, ◌+◌, ◌++◌, ◌∷◌, [], map, take, drop, get_or, Ok, Err, sym, ap, ◌∙◌, subst, arith}
use Rattle.std.proofs.lemmas.List.{take_more, map_push, take-append-drop, map-append}
use Rattle.std.specs.Prelude.{⊤}
use Rattle.sections.specs.Used.{used as used_sections}
use Rattle.functions.specs.Adding.{Adds}
use Rattle.functions.proofs.Adding.{adds_more, adds_refused}
use Rattle.functions.proofs.add.add_all.Goals as goal

pub returns-in_err-add-clause-added : goal.returns-in_err-add-clause-added
returns-in_err-add-clause-added g c =
    let f = g.T.HasOffset.offset_of in
    let rows = c.args.rows.now in
    let k = c.loop-row.row-index in
    let here : f (get_or rows k c.row-item.result) ≡ c.offset.result = search rules in
    let one : map f (take (k + 1) rows) ≡ map f (take k rows) ++ c.offset.result ∷ [] =
    ap (map f) (take_more rows k c.row-item.result c.loop-row-test.true) ∙ map_push f (take k rows) (get_or rows k c.row-item.result) ∙ ap (λ o. map f (take k rows) ++ o ∷ []) here in
    let whole : map f (take (k + 1) rows) ++ map f (drop (k + 1) rows) ≡ map f rows = sym (map-append f (take (k + 1) rows) (drop (k + 1) rows)) ∙ ap (map f) (take-append-drop (k + 1) rows) in
    let inv = c.loop-row.invariant in
    let more = adds_more (used_sections c.args.sections.now) (map f (take k rows)) (c.offset.result ∷ []) c.args.addresses.now c.loop-row.addresses c.add.new.addresses c.add.result inv.1 inv.2.1 c.add.ensures.grows (subst (λ ss. Adds {U = ⊤} ss (c.offset.result ∷ []) c.loop-row.addresses c.add.new.addresses c.add.result) c.used-sections.ensures c.add.ensures.added) in
    let p : c.from_residual.result ≡ Err c.in_err-add.field-0.0 = search rules in
    subst (λ r. Adds {U = ⊤} (used_sections c.args.sections.now) (map f rows) c.args.addresses.now c.add.new.addresses r) (sym p)
    (subst (λ os. Adds {U = ⊤} (used_sections c.args.sections.now) os c.args.addresses.now c.add.new.addresses (Err c.in_err-add.field-0.0)) whole
    (adds_refused (used_sections c.args.sections.now) (map f (take (k + 1) rows)) (map f (drop (k + 1) rows)) c.args.addresses.now c.add.new.addresses c.in_err-add.field-0.0
    (subst (λ os. Adds {U = ⊤} (used_sections c.args.sections.now) os c.args.addresses.now c.add.new.addresses (Err c.in_err-add.field-0.0)) (sym one)
    (subst (λ r. Adds {U = ⊤} (used_sections c.args.sections.now) (map f (take k rows) ++ c.offset.result ∷ []) c.args.addresses.now c.add.new.addresses r) c.in_err-add.was more))))

pub loop-row-preserved : goal.loop-row-preserved
loop-row-preserved g c =
    let f = g.T.HasOffset.offset_of in
    let rows = c.args.rows.now in
    let k = c.loop-row.row-index in
    let here : f (get_or rows k c.row-item.result) ≡ c.offset.result = search rules in
    let one : map f (take (k + 1) rows) ≡ map f (take k rows) ++ c.offset.result ∷ [] =
    ap (map f) (take_more rows k c.row-item.result c.loop-row-test.true) ∙ map_push f (take k rows) (get_or rows k c.row-item.result) ∙ ap (λ o. map f (take k rows) ++ o ∷ []) here in
    let inv = c.loop-row.invariant in
    let more = adds_more (used_sections c.args.sections.now) (map f (take k rows)) (c.offset.result ∷ []) c.args.addresses.now c.loop-row.addresses c.add.new.addresses c.add.result inv.1 inv.2.1 c.add.ensures.grows (subst (λ ss. Adds {U = ⊤} ss (c.offset.result ∷ []) c.loop-row.addresses c.add.new.addresses c.add.result) c.used-sections.ensures c.add.ensures.added) in (
      (let t = c.loop-row-test.true in omega arith),
      subst (λ os. Adds {U = ⊤} (used_sections c.args.sections.now) os c.args.addresses.now c.add.new.addresses (Ok c.in_ok-add.field-0)) (sym one)
          (subst (λ r. Adds {U = ⊤} (used_sections c.args.sections.now) (map f (take k rows) ++ c.offset.result ∷ []) c.args.addresses.now c.add.new.addresses r) c.in_ok-add.was more),
      (c.add.ensures.slice.0 ∙ inv.2.0, c.add.ensures.slice.1 ∙ inv.2.1),
      (let up = c.add.ensures.grows in omega arith),
    )
