use Rattle.std.proofs.Common.{◌≡◌, length}
use Rattle.shelf.specs.Stretches.{FirstStretched}
use Rattle.shelf.proofs.stretches.fill_stretches.Given as goal

abbrev pub invariant-loop-row : goal.invariant-loop-row
invariant-loop-row l = record {
  long : length l.stretches ≡ length l.initial.stretches;
  filled : FirstStretched l.row l.procedures l.stretches;
}
