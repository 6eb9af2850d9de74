-- The function of an address. Assumes nothing.
use Rattle.std.specs.Prelude.{ℕ, ◌+◌, Bool, false, cond, not, ◌&&◌, List, Some, None, Ok, Err, Option, Result, ◌==◌, nat_le, nat_lt}
use Rattle.std.specs.List.{slice_get}
use Rattle.order.specs.Rank.{first, last, at}
use Rattle.base.specs.Rows.{in_section, offset_rank, start_rank}
use Rattle.base.specs.declared.image.SectionOffset.{SectionOffset}
use Rattle.base.specs.declared.image.TextPart.{TextPart}
use Rattle.base.specs.declared.context.KnownStart.{KnownStart}
use Rattle.base.specs.declared.refusal.Refusal.{Refusal}
use Rattle.building.specs.Outcome.{Built, top}
use Rattle.provider.specs.Modules.{Modules}
use Rattle.procedures.specs.Names.{bytes_of}
use Rattle.procedures.specs.declared.row.Procedure.{Procedure}
use Rattle.procedures.specs.declared.function.Location.{Location}
use Rattle.procedures.specs.declared.function.Function.{Function}
use Rattle.procedures.specs.declared.name.NameRow.{NameRow}
use Rattle.procedures.specs.declared.name.NameRow.TheVariants.{None as NoName, Raw, Typed}
use Rattle.lookup.specs.Reading.{Shelved, shelve}
use Rattle.lookup.specs.Places.{locate}

-- a procedure contains a place of its own section only
abbrev pub covers : SectionOffset → Procedure → Bool
covers o p = in_section p.offset.section p.offset.offset (p.offset.offset + p.length) o

-- of the procedures that contain a place, the one that starts last: they stand in rising order
abbrev pub chosen : SectionOffset → List Procedure → Option Procedure
chosen o ps = last (covers o) ps

-- known starts of the section, at or below the place and above it
abbrev pub reaches : SectionOffset → KnownStart → Bool
reaches o s = s.offset.section == o.section && nat_le s.offset.offset o.offset

abbrev pub follows : SectionOffset → KnownStart → Bool
follows o s = s.offset.section == o.section && nat_lt o.offset s.offset.offset

-- an address above the top is none
abbrev pub capped : ℕ → Option ℕ
capped n = cond (nat_le n top) (Some n) None

abbrev starts_with_mark : Option (List ℕ) → Bool
starts_with_mark None = false
starts_with_mark (Some bytes) = elim (slice_get bytes 0) [ None ↦ false | Some b ↦ b == 63 ]

-- a name that begins with "?"
abbrev pub decorated : List ℕ → TextPart → Bool
decorated text p = starts_with_mark (bytes_of text p)

abbrev pub raw_or_none : Option TextPart → NameRow
raw_or_none None = NoName
raw_or_none (Some p) = Raw p

-- the name of a start, if it begins with "?"
abbrev pub decorated_name : List ℕ → Option KnownStart → Option TextPart
decorated_name text None = None
decorated_name text (Some s) = elim s.name [ None ↦ None | Some p ↦ cond (decorated text p) (Some p) None ]

abbrev pub raw_or : NameRow → Option TextPart → NameRow
raw_or name None = name
raw_or name (Some p) = Raw p

-- a procedure of type 0 whose own name does not begin with "?" takes that of the known start at its offset, if that does
abbrev pub procedure_name : List ℕ → List KnownStart → ℕ → Procedure → NameRow
procedure_name text starts m p =
    cond (p.type_number == 0 && not (decorated text p.name))
    (raw_or (Typed p.name m p.type_number) (decorated_name text (at start_rank (offset_rank p.offset) starts)))
    (Typed p.name m p.type_number)

abbrev pub of_procedure : List ℕ → List KnownStart → Location → Procedure → Function
of_procedure text starts l p = record {
  start_rva = l.base + p.offset.offset;
  end_rva = capped (l.base + (p.offset.offset + p.length));
  name = procedure_name text starts l.contribution.«module» p;
}

-- from a start up to the next, unless it lies before the contribution or is the section's last
abbrev pub of_start : Location → Option KnownStart → Option KnownStart → Option Function
of_start l None next = None
of_start l (Some s) None = None
of_start l (Some s) (Some next) = cond (nat_lt s.offset.offset l.contribution.start) None (Some (record {
  start_rva = l.base + s.offset.offset;
  end_rva = capped (l.base + next.offset.offset);
  name = raw_or_none s.name;
}))

abbrev pub by_choice : List ℕ → List KnownStart → Location → Option Procedure → Option Function
by_choice text starts l (Some p) = Some (of_procedure text starts l p)
by_choice text starts l None = of_start l (last (reaches l.offset) starts) (first (follows l.offset) starts)

-- the function at a location, given the procedures of the contribution's module
abbrev pub function_at : List ℕ → List KnownStart → Location → List Procedure → Option Function
function_at text starts l ps = by_choice text starts l (chosen l.offset ps)

-- an answer, and the shelf that it leaves
pub record Found : Type 0 where
  pub answer : Result (Option Function) Refusal
  pub shelf : Shelved

abbrev pub answered : List ℕ → Built → Location → Option Refusal → Shelved → Result (Option Function) Refusal
answered text c l None s = Ok (function_at text c.starts l s.procedures)
answered text c l (Some e) s = Err e

abbrev pub find_located : List ℕ → Modules → Built → Option Location → Shelved → Found
find_located text ms c None s = record { answer = Ok None; shelf = s }
find_located text ms c (Some l) s =
    let w = shelve ms l.contribution.«module» s in record { answer = answered text c l w.refusal w.shelf; shelf = w.shelf }

-- what is answered for an address by a resolver whose shelf holds s
abbrev pub find_function : List ℕ → Modules → Built → ℕ → Shelved → Found
find_function text ms c a s = find_located text ms c (locate c a) s
