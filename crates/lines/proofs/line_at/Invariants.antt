use Rattle.std.proofs.Common.{◌≡◌, ◌≤◌, length, take}
use Rattle.provider.specs.Modules.{content}
use Rattle.inlining.specs.Choice.{line_of}
use Rattle.lines.proofs.line_at.Given as goal

abbrev pub invariant-loop-item : goal.invariant-loop-item
invariant-loop-item g l =
    let rows = ((content ((g.P.ModuleProvider.modules l.provider).at l.module)).line_rows l.start).items in
    record {
      within : l.item ≤ length rows;
      best : l.best ≡ line_of l.place (take l.item rows);
    }
