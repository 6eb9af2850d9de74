use Rattle.std.proofs.Common.{◌≡◌, ◌≤◌, ◌++◌, drop, take, string_bytes, string_len, string_capacity}
use Rattle.std.specs.String.Boundary.{IsSplitPoint}
use Rattle.printing.specs.Escaped.{escaped}
use Rattle.printing.proofs.append.Given as goal

abbrev pub invariant-loop-b : goal.invariant-loop-b
invariant-loop-b l = record {
  whole : string_bytes l.out ++ escaped (drop l.b-index l.bytes) ≡ string_bytes l.initial.out ++ escaped l.bytes;
  kept : take (string_len l.initial.out) (string_bytes l.out) ≡ string_bytes l.initial.out;
  split : IsSplitPoint (string_bytes l.out) (string_len l.initial.out);
  room : string_capacity l.initial.out ≤ string_capacity l.out;
}
