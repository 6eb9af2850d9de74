use Rattle.std.proofs.Common.{◌≡◌, ◌+◌, ◌≤◌, length, take, set, Some, None, sym, refl, ◌∙◌, subst, arith}
use Rattle.std.proofs.lemmas.Bool.{ltb-true, ltb-false}
use Rattle.order.specs.Rank.{InOrder}
use Rattle.order.proofs.Insertion.{take_min, settled_used, settled_stays, settled_gives_way, settled_new, settled_full}
use Rattle.table.proofs.insert_row.Goals as goal

pub returns-in-Stays : goal.returns-in-Stays
returns-in-Stays g c ord =
    let rank = g.R.Row.rank in
    let meets = g.R.Row.meets in
    let rows = c.args.rows.now in
    let row = c.args.row in
    let used = c.min-used.result in
    let place = c.position-place.result in
    let few : used ≤ length rows = (let e = c.min-used.ensures in omega arith) in
    let same : take used rows ≡ take c.args.count rows = take_min rows used c.args.count c.min-used.ensures in
    let there = c.position-place.ensures.place (subst (InOrder rank) (sym same) ord) in
    settled_used rank meets rows used c.args.count row (Some used) rows same
    (settled_stays rank meets rows used row place few (take used rows) refl (c.in-Stays.ensures.met there))

pub returns-in-GivesWay : goal.returns-in-GivesWay
returns-in-GivesWay g c ord =
    let rank = g.R.Row.rank in
    let meets = g.R.Row.meets in
    let rows = c.args.rows.now in
    let row = c.args.row in
    let used = c.min-used.result in
    let place = c.position-place.result in
    let few : used ≤ length rows = (let e = c.min-used.ensures in omega arith) in
    let same : take used rows ≡ take c.args.count rows = take_min rows used c.args.count c.min-used.ensures in
    let there = c.position-place.ensures.place (subst (InOrder rank) (sym same) ord) in
    settled_used rank meets rows used c.args.count row (Some used) (set rows place row) same
    (settled_gives_way rank meets rows used row place few (take used rows) refl (c.in-GivesWay.ensures.within refl) (c.in-GivesWay.ensures.met there))

pub returns-in-Both : goal.returns-in-Both
returns-in-Both g c ord =
    let rank = g.R.Row.rank in
    let meets = g.R.Row.meets in
    let rows = c.args.rows.now in
    let row = c.args.row in
    let used = c.min-used.result in
    let place = c.position-place.result in
    let few : used ≤ length rows = (let e = c.min-used.ensures in omega arith) in
    let same : take used rows ≡ take c.args.count rows = take_min rows used c.args.count c.min-used.ensures in
    let there = c.position-place.ensures.place (subst (InOrder rank) (sym same) ord) in
    settled_used rank meets rows used c.args.count row (Some (used + 1)) c.open_at.new.rows same
    (settled_new rank meets rows used row place few (take used rows) refl c.position-place.ensures.within (ltb-true used (length rows) (sym c.has_room.ensures ∙ c.if-has_room.true)) (c.in-Both.ensures.met there) c.open_at.new.rows c.open_at.ensures)

pub returns-in-Both-2 : goal.returns-in-Both-2
returns-in-Both-2 g c ord =
    let rank = g.R.Row.rank in
    let meets = g.R.Row.meets in
    let rows = c.args.rows.now in
    let row = c.args.row in
    let used = c.min-used.result in
    let place = c.position-place.result in
    let few : used ≤ length rows = (let e = c.min-used.ensures in omega arith) in
    let same : take used rows ≡ take c.args.count rows = take_min rows used c.args.count c.min-used.ensures in
    let there = c.position-place.ensures.place (subst (InOrder rank) (sym same) ord) in
    settled_used rank meets rows used c.args.count row None rows same
    (settled_full rank meets rows used row place few (take used rows) refl c.position-place.ensures.within (ltb-false used (length rows) (sym c.has_room.ensures ∙ c.if-has_room.false)) (c.in-Both.ensures.met there))
