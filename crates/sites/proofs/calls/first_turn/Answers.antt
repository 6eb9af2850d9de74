use Rattle.std.proofs.Common.{◌≡◌, Ok, None, arith}
use Rattle.image.specs.Image.{entry}
use Rattle.provider.specs.Modules.{content}
use Rattle.sites.proofs.First.{list_ends, list_faulty, procedure_ends, record_passed}
use Rattle.sites.proofs.calls.first_turn.Goals as goal

pub returns-in_default : goal.returns-in_default
returns-in_default g c =
    let x = content ((g.P.ModuleProvider.modules c.args.provider.now).at c.args.module) in
    let e : entry x.symbols x.symbols_end c.loop-item.item ≡ Ok None = grind arith in
    list_ends x.symbols x.symbols_end c.args.procedure.now c.loop-item.item c.loop-item.invariant e

pub returns-in_default-2 : goal.returns-in_default-2
returns-in_default-2 g c =
    let x = content ((g.P.ModuleProvider.modules c.args.provider.now).at c.args.module) in
    list_faulty x.symbols x.symbols_end c.args.procedure.now c.loop-item.item c.loop-item.invariant c.in_default.field-0 c.symbol.result c.in_default.is c.symbol.ensures

pub returns-then-found-procedure : goal.returns-then-found-procedure
returns-then-found-procedure g c =
    let x = content ((g.P.ModuleProvider.modules c.args.provider.now).at c.args.module) in
    procedure_ends x.symbols x.symbols_end c.args.procedure.now c.loop-item.item c.loop-item.invariant c.in-Ok-Some.found _ c.in-Ok-Some.ensures c.in-Ok-Some.field-0-is c.if-found-procedure.true

pub loop-item-preserved : goal.loop-item-preserved
loop-item-preserved g c =
    let x = content ((g.P.ModuleProvider.modules c.args.provider.now).at c.args.module) in
    record_passed x.symbols x.symbols_end c.args.procedure.now c.loop-item.item c.loop-item.invariant c.in-Ok-Some.found _ c.in-Ok-Some.ensures c.in-Ok-Some.field-0-is c.if-found-procedure.false c.in_default-symbol.not-Procedure c.in_default-symbol.not-InlineSite
