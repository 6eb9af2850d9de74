-- The rows of a module's procedures: how they stand, and the empty ones. Assumes nothing.
use Rattle.std.specs.Prelude.{ℕ, List}
use Rattle.order.specs.declared.Meeting.{Meeting}
use Rattle.order.specs.declared.Meeting.TheVariants.{Stays, GivesWay}
use Rattle.base.specs.Rows.{offset_rank}
use Rattle.base.specs.declared.image.SectionOffset.{SectionOffset}
use Rattle.base.specs.declared.image.TextPart.{TextPart}
use Rattle.procedures.specs.declared.row.Procedure.{Procedure}
use Rattle.procedures.specs.declared.row.Parent.{Parent}

-- procedures stand by their offsets, and of equal offsets the first stays
abbrev pub procedure_rank : Procedure → List ℕ
procedure_rank p = offset_rank p.offset

abbrev pub procedure_meets : Procedure → Procedure → Meeting
procedure_meets p newer = Stays

-- parents too, but of equal offsets the last counts
abbrev pub parent_rank : Parent → List ℕ
parent_rank p = offset_rank p.offset

abbrev pub parent_meets : Parent → Parent → Meeting
parent_meets p newer = GivesWay

abbrev nowhere : SectionOffset
nowhere = record { section = 0; offset = 0 }

abbrev no_text : TextPart
no_text = record { start = 0; length = 0 }

abbrev pub no_procedure : Procedure
no_procedure = record { offset = nowhere; length = 0; name = no_text; type_number = 0; item = 0; end = 0 }

-- what a parent takes from a procedure
abbrev pub parent_of : Procedure → Parent
parent_of p = record { offset = p.offset; name = p.name; type_number = p.type_number }
