use Rattle.std.proofs.Common.{◌≡◌, ◌^◌, ◌<◌, length, None, Ok, rules, arith}
use Rattle.image.specs.Image.{entry}
use Rattle.provider.specs.Modules.{content}
use Rattle.inlining.specs.Ranges.{rows_from, opened}
use Rattle.sites.specs.Walk.{walk_of, site_of}
use Rattle.sites.proofs.Rows.{rows_begin, row_on, row_refused, row_within, rows_end, rows_fault}
use Rattle.sites.proofs.walk.Walk.open_site.Goals as goal

pub loop-item-init : goal.loop-item-init
loop-item-init g c =
    let x = content ((g.P.ModuleProvider.modules c.args.provider.now).at c.args.module) in
    record {
      walk = rows_begin c.args.module (rows_from x c.args.procedure.now) (site_of c.args.site) (walk_of c.args.self.now) _ c.in_ok-push.ensures.walk;
      skip = search rules;
    }

pub loop-item-preserved : goal.loop-item-preserved
loop-item-preserved g c =
    let x = content ((g.P.ModuleProvider.modules c.args.provider.now).at c.args.module) in
    let rows = x.site_rows c.args.site.index c.args.procedure.now.offset in
    record {
      walk = row_on c.args.module c.args.site.item rows.items rows.ending c.loop-item.item (walk_of c.loop-item.self) (opened c.args.module (rows_from x c.args.procedure.now) (site_of c.args.site) (walk_of c.args.self.now)) c.loop-item.invariant.walk c.in-Ok-Some.row _ c.in-Ok-Some.ensures c.in-Ok-Some.field-0-is _ c.in_ok-add_row.ensures.walk;
      skip = search rules;
    }

pub returns-in_err-add_row-clause-walk : goal.returns-in_err-add_row-clause-walk
returns-in_err-add_row-clause-walk g c =
    let x = content ((g.P.ModuleProvider.modules c.args.provider.now).at c.args.module) in
    let rows = x.site_rows c.args.site.index c.args.procedure.now.offset in
    let all = row_refused c.args.module c.args.site.item rows.items rows.ending c.loop-item.item (walk_of c.loop-item.self) (opened c.args.module (rows_from x c.args.procedure.now) (site_of c.args.site) (walk_of c.args.self.now)) c.loop-item.invariant.walk c.in-Ok-Some.row _ c.in-Ok-Some.ensures c.in-Ok-Some.field-0-is _ c.in_err-add_row.ensures.walk in
    search (rules, all)

pub returns-in_default-clause-walk : goal.returns-in_default-clause-walk
returns-in_default-clause-walk g c =
    let x = content ((g.P.ModuleProvider.modules c.args.provider.now).at c.args.module) in
    let rows = x.site_rows c.args.site.index c.args.procedure.now.offset in
    let e : entry rows.items rows.ending c.loop-item.item ≡ Ok None = grind arith in
    rows_end c.args.module c.args.site.item rows.items rows.ending c.loop-item.item (walk_of c.loop-item.self) (opened c.args.module (rows_from x c.args.procedure.now) (site_of c.args.site) (walk_of c.args.self.now)) c.loop-item.invariant.walk e

pub returns-in_default-2-clause-walk : goal.returns-in_default-2-clause-walk
returns-in_default-2-clause-walk g c =
    let x = content ((g.P.ModuleProvider.modules c.args.provider.now).at c.args.module) in
    let rows = x.site_rows c.args.site.index c.args.procedure.now.offset in
    rows_fault c.args.module c.args.site.item rows.items rows.ending c.loop-item.item (walk_of c.loop-item.self) (opened c.args.module (rows_from x c.args.procedure.now) (site_of c.args.site) (walk_of c.args.self.now)) c.loop-item.invariant.walk c.in_default.field-0 c.site_row.result c.in_default.is c.site_row.ensures

pub returns-in_ok-add_row-clause-walk : goal.returns-in_ok-add_row-clause-walk
returns-in_ok-add_row-clause-walk g c =
    let x = content ((g.P.ModuleProvider.modules c.args.provider.now).at c.args.module) in
    let rows = x.site_rows c.args.site.index c.args.procedure.now.offset in
    let few : length rows.items < 2 ^ 32 = ((g.P.ModuleProvider.regular c.args.provider.now).each c.args.module).few_site_rows c.args.site.index c.args.procedure.now.offset in
    let i = row_within c.args.module c.args.site.item rows.items rows.ending c.loop-item.item (walk_of c.loop-item.self) (opened c.args.module (rows_from x c.args.procedure.now) (site_of c.args.site) (walk_of c.args.self.now)) c.loop-item.invariant.walk c.in-Ok-Some.row _ c.in-Ok-Some.ensures c.in-Ok-Some.field-0-is in
    absurd (omega arith)
