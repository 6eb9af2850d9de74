-- The row of a frame that says nothing. Assumes nothing.
use Rattle.std.specs.Prelude.{None}
use Rattle.procedures.specs.declared.name.NameRow.TheVariants.{None as NoName}
use Rattle.frames.specs.declared.frame.Frame.{Frame}

abbrev pub no_frame : Frame
no_frame = record { name = NoName; file = None; line = None }
