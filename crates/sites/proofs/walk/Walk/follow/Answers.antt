use Rattle.std.proofs.Common.{rules, ◌≡◌, ◌^◌, ◌<◌, length, drop, Ok, None, arith}
use Rattle.image.specs.Image.{entry}
use Rattle.provider.specs.Modules.{content}
use Rattle.sites.specs.Walk.{onward}
use Rattle.sites.proofs.Turning.{record_on, record_last, record_refused, record_within, records_end, records_fault}
use Rattle.sites.proofs.walk.Walk.follow.Goals as goal

pub returns-in_err-goes_on : goal.returns-in_err-goes_on
returns-in_err-goes_on g c =
    let x = content ((g.P.ModuleProvider.modules c.args.provider.now).at c.args.module) in
    let all = record_refused c.args.module x c.args.procedure.now c.loop-item.item c.loop-item.self (onward c.args.module x c.args.procedure.now c.args.first c.args.self.now (drop c.args.first x.symbols)) c.loop-item.invariant c.in-Ok-Some.found _ c.in-Ok-Some.ensures c.in-Ok-Some.field-0-is c.step.new.self _ c.in_err-goes_on.ensures in
    search (rules, all)

pub loop-item-preserved : goal.loop-item-preserved
loop-item-preserved g c =
    let x = content ((g.P.ModuleProvider.modules c.args.provider.now).at c.args.module) in
    record_on c.args.module x c.args.procedure.now c.loop-item.item c.loop-item.self (onward c.args.module x c.args.procedure.now c.args.first c.args.self.now (drop c.args.first x.symbols)) c.loop-item.invariant c.in-Ok-Some.found _ c.in-Ok-Some.ensures c.in-Ok-Some.field-0-is c.step.new.self _ c.if-not-goes_on.false c.in_ok-goes_on.ensures

pub returns-in_default : goal.returns-in_default
returns-in_default g c =
    let x = content ((g.P.ModuleProvider.modules c.args.provider.now).at c.args.module) in
    let e : entry x.symbols x.symbols_end c.loop-item.item ≡ Ok None = grind arith in
    records_end c.args.module x c.args.procedure.now c.loop-item.item c.loop-item.self (onward c.args.module x c.args.procedure.now c.args.first c.args.self.now (drop c.args.first x.symbols)) c.loop-item.invariant e

pub returns-in_default-2 : goal.returns-in_default-2
returns-in_default-2 g c =
    let x = content ((g.P.ModuleProvider.modules c.args.provider.now).at c.args.module) in
    records_fault c.args.module x c.args.procedure.now c.loop-item.item c.loop-item.self (onward c.args.module x c.args.procedure.now c.args.first c.args.self.now (drop c.args.first x.symbols)) c.loop-item.invariant c.in_default.field-0 c.symbol.result c.in_default.is c.symbol.ensures

pub returns-then-not-goes_on : goal.returns-then-not-goes_on
returns-then-not-goes_on g c =
    let x = content ((g.P.ModuleProvider.modules c.args.provider.now).at c.args.module) in
    record_last c.args.module x c.args.procedure.now c.loop-item.item c.loop-item.self (onward c.args.module x c.args.procedure.now c.args.first c.args.self.now (drop c.args.first x.symbols)) c.loop-item.invariant c.in-Ok-Some.found _ c.in-Ok-Some.ensures c.in-Ok-Some.field-0-is c.step.new.self _ c.if-not-goes_on.true c.in_ok-goes_on.ensures

pub returns-else-not-goes_on : goal.returns-else-not-goes_on
returns-else-not-goes_on g c =
    let x = content ((g.P.ModuleProvider.modules c.args.provider.now).at c.args.module) in
    let few : length x.symbols < 2 ^ 32 = ((g.P.ModuleProvider.regular c.args.provider.now).each c.args.module).few_symbols in
    let i = record_within c.args.module x c.args.procedure.now c.loop-item.item c.loop-item.self (onward c.args.module x c.args.procedure.now c.args.first c.args.self.now (drop c.args.first x.symbols)) c.loop-item.invariant c.in-Ok-Some.found _ c.in-Ok-Some.ensures c.in-Ok-Some.field-0-is in
    absurd (omega arith)
