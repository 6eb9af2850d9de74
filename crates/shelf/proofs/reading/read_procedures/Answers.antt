use Rattle.std.proofs.Common.{◌^◌, ◌<◌, length, Ok, sym, ap, ◌∙◌, arith, rules}
use Rattle.provider.specs.Modules.{content}
use Rattle.shelf.proofs.Kept.{inside, progress_more, read_refused, read_whole, read_faulty}
use Rattle.shelf.proofs.reading.read_procedures.Goals as goal

pub loop-item-preserved : goal.loop-item-preserved
loop-item-preserved g c = record {
  read = progress_more c.loop-item.invariant.read (sym c.in-Ok-Some.ensures ∙ ap Ok c.in-Ok-Some.field-0-is) c.in_ok-keep-in-Ok-Some.ensures.kept;
  slice = search rules;
}

pub returns-in-Err-clause-read : goal.returns-in-Err-clause-read
returns-in-Err-clause-read g c = read_faulty c.loop-item.invariant.read (sym c.in-Err.ensures)

pub returns-in-Ok-None-clause-read : goal.returns-in-Ok-None-clause-read
returns-in-Ok-None-clause-read g c = read_whole c.loop-item.invariant.read (sym c.in-Ok-None.ensures ∙ ap Ok c.in-Ok-None.field-0-is)

pub returns-in_err-keep-in-Ok-Some-clause-read : goal.returns-in_err-keep-in-Ok-Some-clause-read
returns-in_err-keep-in-Ok-Some-clause-read g c =
    let r = read_refused c.loop-item.invariant.read (sym c.in-Ok-Some.ensures ∙ ap Ok c.in-Ok-Some.field-0-is) c.in_err-keep-in-Ok-Some.ensures.kept in
    grind arith

pub returns-in_ok-keep-in-Ok-Some-clause-read : goal.returns-in_ok-keep-in-Ok-Some-clause-read
returns-in_ok-keep-in-Ok-Some-clause-read g c =
    let few : length (content ((g.P.ModuleProvider.modules c.args.provider.now).at c.args.module)).symbols < 2 ^ 32 = ((g.P.ModuleProvider.regular c.args.provider.now).each c.args.module).few_symbols in
    let i = inside c.loop-item.invariant.read (sym c.in-Ok-Some.ensures ∙ ap Ok c.in-Ok-Some.field-0-is) in
    absurd (omega arith)
