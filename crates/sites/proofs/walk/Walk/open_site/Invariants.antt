use Rattle.std.proofs.Common.{◌≡◌, drop}
use Rattle.provider.specs.Modules.{content}
use Rattle.inlining.specs.Ranges.{opened, rows_from}
use Rattle.sites.specs.Rows.{rows_added}
use Rattle.sites.specs.Walk.{walk_of, site_of}
use Rattle.sites.proofs.walk.Walk.open_site.Given as goal

abbrev pub invariant-loop-item : goal.invariant-loop-item
invariant-loop-item g l =
    let rows = rows_from (content ((g.P.ModuleProvider.modules l.provider).at l.module)) l.procedure in
    record {
      walk : rows_added l.module l.site.item (drop l.item (rows (site_of l.site))) (walk_of l.self) ≡ opened l.module rows (site_of l.site) (walk_of l.fn.self);
      skip : l.self.skip ≡ l.fn.self.skip;
    }
