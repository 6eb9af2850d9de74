use Rattle.std.proofs.Common.{◌^◌, ◌<◌, length, take, Ok, sym, ap, ◌∙◌, arith}
use Rattle.base.specs.Refusals.{or_refusal}
use Rattle.base.specs.declared.refusal.FaultyList.TheVariants.{LineRows}
use Rattle.building.proofs.Items.{item_within, item_take, end_take, refused_item, refused_end}
use Rattle.provider.specs.Modules.{content}
use Rattle.inlining.specs.Choice.{line_of}
use Rattle.lines.proofs.line_at.Goals as goal

pub loop-item-preserved : goal.loop-item-preserved
loop-item-preserved g c =
    let lines = (content ((g.P.ModuleProvider.modules c.args.provider.now).at c.args.module)).line_rows c.args.start in
    let found = refused_item (LineRows c.args.module) lines.items lines.ending c.loop-item.item c.in-Some.row (sym (c.refuse.ensures ∙ ap (or_refusal (LineRows c.args.module)) c.line_row.ensures) ∙ c.in_ok-row.was ∙ ap Ok c.in-Some.is) in
    let within = item_within lines.items c.loop-item.item c.in-Some.row found in
    record {
      within = omega arith;
      best = c.better-best.ensures (take c.loop-item.item lines.items) c.loop-item.invariant.best ∙ ap (line_of c.args.place) (sym (item_take lines.items c.loop-item.item c.in-Some.row found));
    }

pub returns-in_default : goal.returns-in_default
returns-in_default g c =
    let lines = (content ((g.P.ModuleProvider.modules c.args.provider.now).at c.args.module)).line_rows c.args.start in
    let end = refused_end (LineRows c.args.module) lines.items lines.ending c.loop-item.item (sym (c.refuse.ensures ∙ ap (or_refusal (LineRows c.args.module)) c.line_row.ensures) ∙ c.in_ok-row.was ∙ ap Ok c.in_default.is) in
    let whole = end_take lines.items c.loop-item.item end.0 in
    grind arith

pub returns-in-Some : goal.returns-in-Some
returns-in-Some g c =
    let lines = (content ((g.P.ModuleProvider.modules c.args.provider.now).at c.args.module)).line_rows c.args.start in
    let few : length lines.items < 2 ^ 32 = ((g.P.ModuleProvider.regular c.args.provider.now).each c.args.module).few_line_rows c.args.start in
    let found = refused_item (LineRows c.args.module) lines.items lines.ending c.loop-item.item c.in-Some.row (sym (c.refuse.ensures ∙ ap (or_refusal (LineRows c.args.module)) c.line_row.ensures) ∙ c.in_ok-row.was ∙ ap Ok c.in-Some.is) in
    let within = item_within lines.items c.loop-item.item c.in-Some.row found in
    absurd (omega arith)
