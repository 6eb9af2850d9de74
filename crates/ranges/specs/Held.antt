-- The ranges that a list holds, and the calls. Assumes nothing.
use Rattle.std.specs.Prelude.{List, take}
use Rattle.frames.specs.declared.range.InlineRange.{InlineRange}
use Rattle.ranges.specs.declared.list.Ranges.{Ranges}
use Rattle.ranges.specs.declared.calls.InlineCalls.{InlineCalls}

abbrev pub held : Ranges → List InlineRange
held r = take r.count r.rows

abbrev pub calls : InlineCalls → List InlineRange
calls c = take c.count c.rows
