use Rattle.std.proofs.Common.{◌≡◌, ℕ, ◌+◌, ◌≢◌, get_or, set, ◌∙◌, ap, arith}
use Rattle.std.proofs.lemmas.List.{length-set, get_or-set_same, get_or-set_other}
use Rattle.order.proofs.Insertion.{shifted}
use Rattle.table.proofs.open_at.Goals as goal

pub returns : goal.returns
returns g c =
    let moved = c.copy_within.new.self in
    let copied = c.copy_within.ensures.by_index in
    let other : (j : ℕ) (d : g.row.R.Denot) → j ≢ c.args.place → get_or (set moved c.args.place c.args.row) j d ≡ get_or moved j d = λ j d n. get_or-set_other moved c.args.place j c.args.row d n in
    shifted c.args.rows.now _ c.args.place c.args.count c.args.row (omega arith) (omega arith)
    (length-set moved c.args.place c.args.row ∙ c.copy_within.ensures.len)
    (λ j d l. other j d (omega arith) ∙ copied.1 j d (omega arith))
    (λ d. get_or-set_same moved c.args.place c.args.row d (omega arith))
    (λ j d l m. other _ d (omega arith) ∙ copied.0 (j + 1) d (omega arith) (omega arith) ∙ ap (λ k. get_or c.args.rows.now k d) (omega arith))
    (λ j d l. other j d (omega arith) ∙ copied.2 j d (omega arith))
