use Rattle.std.proofs.Common.{rules, ◌≡◌, ◌<◌, map, length, Err, Ok, sym, ap, ◌∙◌}
use Rattle.context.specs.Context.{meaning}
use Rattle.shelf.specs.Shelf.{shelved}
use Rattle.listing.specs.Listing.{count_of, with_offsets, procedure_offset}
use Rattle.functions.specs.Adding.{used}
use Rattle.functions.proofs.Adding.{further}
use Rattle.functions.proofs.Listed.{refused_module, added_module}
use Rattle.functions.proofs.list.fill.Goals as goal

pub returns-in_err-want : goal.returns-in_err-want
returns-in_err-want g c =
    let ms = g.P.ModuleProvider.modules c.args.provider.now in
    let l = c.loop-module in
    let inside : l.module < ms.count = search (rules, c.module_count-module-end.ensures) in
    let h = c.in_err-want.ensures in
    let all = refused_module ms (meaning c.args.context.now) (length c.args.addresses.now) (shelved c.args.shelf.now) l.module inside (used l.addresses) (shelved l.shelf) l.invariant.come c.in_err-want.field-0.0 h.answer in
    let p : c.from_residual-in_err-want.result ≡ Err c.in_err-want.field-0.0 = search rules in
    record {
      answer = p ∙ sym (ap (λ x. count_of x.answer) all);
      table = search rules;
      shelf = h.shelf ∙ sym (ap (λ x. x.shelf) all);
      length = search rules;
    }

pub returns-in_err-add_all-2 : goal.returns-in_err-add_all-2
returns-in_err-add_all-2 g c =
    let ms = g.P.ModuleProvider.modules c.args.provider.now in
    let there = meaning c.args.context.now in
    let rows = length c.args.addresses.now in
    let l = c.loop-module in
    let inside : l.module < ms.count = search (rules, c.module_count-module-end.ensures) in
    let e = c.in_err-add_all-2.field-0.0 in
    let added : Err e ≡ with_offsets rows there.sections (used l.addresses) (map procedure_offset (shelved c.want.new.self).procedures) =
    ◌∙◌ {a = Err e} {b = with_offsets (length l.addresses.rows.now) there.sections (used l.addresses) (map procedure_offset c.procedures.result.rows.now)} c.in_err-add_all-2.ensures.added.answer (ap (λ n. with_offsets n there.sections (used l.addresses) (map procedure_offset c.procedures.result.rows.now)) l.invariant.long ∙ ap (λ ps. with_offsets rows there.sections (used l.addresses) (map procedure_offset ps)) c.procedures.ensures.value) in
    let all = added_module ms there rows (shelved c.args.shelf.now) l.module inside (used l.addresses) (shelved l.shelf) l.invariant.come (shelved c.want.new.self) c.in_ok-want.ensures.answer c.in_ok-want.ensures.shelf (Err e) added in
    let p : c.from_residual-in_err-add_all-2.result ≡ Err e = search rules in
    record {
      answer = p ∙ sym (ap (λ x. count_of x.answer) all);
      table = search rules;
      shelf = sym (ap (λ x. x.shelf) all);
      length = search rules;
    }

pub loop-module-preserved : goal.loop-module-preserved
loop-module-preserved g c =
    let ms = g.P.ModuleProvider.modules c.args.provider.now in
    let there = meaning c.args.context.now in
    let rows = length c.args.addresses.now in
    let l = c.loop-module in
    let inside : l.module < ms.count = search (rules, c.module_count-module-end.ensures) in
    let h = c.in_ok-add_all-2.ensures in
    let after = c.add_all-in-loop-module.new.addresses in
    let added : Ok (used after) ≡ with_offsets rows there.sections (used l.addresses) (map procedure_offset (shelved c.want.new.self).procedures) =
    ◌∙◌ {a = Ok (used after)} {b = with_offsets (length l.addresses.rows.now) there.sections (used l.addresses) (map procedure_offset c.procedures.result.rows.now)} h.added.answer (ap (λ n. with_offsets n there.sections (used l.addresses) (map procedure_offset c.procedures.result.rows.now)) l.invariant.long ∙ ap (λ ps. with_offsets rows there.sections (used l.addresses) (map procedure_offset ps)) c.procedures.ensures.value) in
    record {
      come = sym (added_module ms there rows (shelved c.args.shelf.now) l.module inside (used l.addresses) (shelved l.shelf) l.invariant.come (shelved c.want.new.self) c.in_ok-want.ensures.answer c.in_ok-want.ensures.shelf (Ok (used after)) added);
      rest = h.added.rest ∙ further l.addresses.count after.count h.grows l.addresses.rows.now c.args.addresses.now l.invariant.rest;
      lender = h.slice.0 ∙ l.invariant.lender;
      long = h.slice.1 ∙ l.invariant.long;
    }

pub loop-module-init : goal.loop-module-init
loop-module-init g c = search rules
