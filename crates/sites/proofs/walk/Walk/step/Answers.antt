use Rattle.std.proofs.Common.{rules, ◌≡◌, ◌<◌, None, Some, sym, arith, ◌∙◌}
use Rattle.frames.specs.declared.range.OpenSite.{OpenSite}
use Rattle.provider.specs.Modules.{content}
use Rattle.sites.specs.Walk.{walk_of}
use Rattle.sites.proofs.Turning.{before_reach, before_end, site_opened, site_refused, procedure_within, record_other, close_refused}
use Rattle.sites.proofs.walk.Walk.step.Goals as goal

pub returns-in_err-open_site-in_default-InlineSite : goal.returns-in_err-open_site-in_default-InlineSite
returns-in_err-open_site-in_default-InlineSite g c =
    let x = content ((g.P.ModuleProvider.modules c.args.provider.now).at c.args.module) in
    let none : c.innermost.result ≡ None → c.args.found.index < c.args.procedure.now.end = λ e. grind arith in
    let some : (s : OpenSite) → c.innermost.result ≡ Some s → c.args.found.index < s.end = λ s e. grind arith in
    let before = before_reach c.args.procedure.now.end c.args.found.index (walk_of c.args.self.now).sites (λ e. none (c.innermost.ensures ∙ e)) (λ s e. some s (c.innermost.ensures ∙ e)) in
    site_refused c.args.module x c.args.procedure.now c.args.item c.args.found c.args.self.now c.open_site.new.self (search rules) before _ _ (search rules) _ _ c.in_err-open_site-in_default-InlineSite.ensures.walk (search rules)

pub returns-in_ok-open_site-in_default-InlineSite : goal.returns-in_ok-open_site-in_default-InlineSite
returns-in_ok-open_site-in_default-InlineSite g c =
    let x = content ((g.P.ModuleProvider.modules c.args.provider.now).at c.args.module) in
    let none : c.innermost.result ≡ None → c.args.found.index < c.args.procedure.now.end = λ e. grind arith in
    let some : (s : OpenSite) → c.innermost.result ≡ Some s → c.args.found.index < s.end = λ s e. grind arith in
    let before = before_reach c.args.procedure.now.end c.args.found.index (walk_of c.args.self.now).sites (λ e. none (c.innermost.ensures ∙ e)) (λ s e. some s (c.innermost.ensures ∙ e)) in
    site_opened c.args.module x c.args.procedure.now c.args.item c.args.found c.args.self.now c.open_site.new.self (search rules) before _ _ (search rules) (search rules) c.in_ok-open_site-in_default-InlineSite.ensures.walk

pub returns-in_default-2-2 : goal.returns-in_default-2-2
returns-in_default-2-2 g c =
    let x = content ((g.P.ModuleProvider.modules c.args.provider.now).at c.args.module) in
    let before = before_end c.args.procedure.now.end c.args.found.index (walk_of c.args.self.now).sites c.in-Some-default.site (sym c.innermost.ensures ∙ c.in-Some-default.is-0) c.if-found-site.false in
    record_other c.args.module x c.args.procedure.now c.args.item c.args.found c.args.self.now c.args.self.now (search rules) before c.in_default-2.not-Procedure-1 c.in_default-2.not-InlineSite-1

pub returns-in_default-Procedure : goal.returns-in_default-Procedure
returns-in_default-Procedure g c =
    let x = content ((g.P.ModuleProvider.modules c.args.provider.now).at c.args.module) in
    let none : c.innermost.result ≡ None → c.args.found.index < c.args.procedure.now.end = λ e. grind arith in
    let some : (s : OpenSite) → c.innermost.result ≡ Some s → c.args.found.index < s.end = λ s e. grind arith in
    let before = before_reach c.args.procedure.now.end c.args.found.index (walk_of c.args.self.now).sites (λ e. none (c.innermost.ensures ∙ e)) (λ s e. some s (c.innermost.ensures ∙ e)) in
    procedure_within c.args.module x c.args.procedure.now c.args.item c.args.found c.args.self.now c.args.self.now (search rules) before _ (search rules)

pub returns-in_err-close-in-Some-default : goal.returns-in_err-close-in-Some-default
returns-in_err-close-in-Some-default g c =
    let x = content ((g.P.ModuleProvider.modules c.args.provider.now).at c.args.module) in
    close_refused c.args.module x c.args.procedure.now c.args.item c.args.found c.args.self.now c.close.new.self (search rules) _ (sym c.innermost.ensures ∙ c.in-Some-default.is-0) c.if-found-site.true _ _ c.in_err-close-in-Some-default.ensures.walk (search rules)

-- the search finds these too; without an answer a false one keeps it busy
pub returns-in-Some : goal.returns-in-Some
returns-in-Some g c = search rules

pub returns-in_ok-close-in-Some-default : goal.returns-in_ok-close-in-Some-default
returns-in_ok-close-in-Some-default g c = search rules
