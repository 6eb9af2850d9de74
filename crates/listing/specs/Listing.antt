-- The list of functions. Assumes nothing.
use Rattle.std.specs.Prelude.{ℕ, zero, suc, ◌+◌, cond, List, [], ◌∷◌, ◌++◌, map, length, drop, replicate, Some, None, Ok, Err, Option, Result, nat_lt}
use Rattle.std.specs.List.{slice_get}
use Rattle.order.specs.Placed.{placed}
use Rattle.base.specs.declared.image.Section.{Section}
use Rattle.base.specs.declared.image.SectionOffset.{SectionOffset}
use Rattle.base.specs.declared.context.KnownStart.{KnownStart}
use Rattle.base.specs.declared.refusal.Refusal.{Refusal}
use Rattle.base.specs.declared.refusal.Refusal.TheVariants.{AddressTableFull}
use Rattle.building.specs.Outcome.{Built}
use Rattle.provider.specs.Modules.{Modules}
use Rattle.procedures.specs.declared.row.Procedure.{Procedure}
use Rattle.lookup.specs.Reading.{Shelved, shelve}
use Rattle.lookup.specs.Finding.{capped}
use Rattle.inlining.specs.Steps.{then}
use Rattle.addresses.specs.Rows.{address_rank, address_meets, no_address}
use Rattle.addresses.specs.declared.Address.{Address}

-- sections are counted from 1
abbrev pub section_of : List Section → ℕ → Option Section
section_of sections zero = None
section_of sections (suc n) = slice_get sections n

-- the address of a place: none without such a section, or where it would lie above the top
abbrev pub rva_of : List Section → SectionOffset → Option ℕ
rva_of sections o = elim (section_of sections o.section) [ None ↦ None | Some s ↦ capped (s.address + o.offset) ]

-- an address comes to others in a table of so many rows
abbrev pub all_fit : ℕ → List Address → Result (List Address) Refusal
all_fit rows xs = cond (nat_lt rows (length xs)) (Err AddressTableFull) (Ok xs)

abbrev pub with_address : ℕ → List Address → Option ℕ → Result (List Address) Refusal
with_address rows xs None = Ok xs
with_address rows xs (Some a) = all_fit rows (placed address_rank address_meets (record { rva = a }) xs)

abbrev pub with_offsets : ℕ → List Section → List Address → List SectionOffset → Result (List Address) Refusal
with_offsets rows sections xs [] = Ok xs
with_offsets rows sections xs (o ∷ os) = then (with_address rows xs (rva_of sections o)) (λ after. with_offsets rows sections after os)

abbrev pub start_offset : KnownStart → SectionOffset
start_offset s = s.offset

abbrev pub procedure_offset : Procedure → SectionOffset
procedure_offset p = p.offset

-- the addresses, or a refusal, and the shelf that is left
pub record Listed : Type 0 where
  pub answer : Result (List Address) Refusal
  pub shelf : Shelved

-- the procedures of so many modules, from number k on, each wanted in turn
abbrev pub with_modules : Modules → List Section → ℕ → ℕ → ℕ → List Address → Shelved → Listed
with_modules ms sections rows k zero xs s = record { answer = Ok xs; shelf = s }
with_modules ms sections rows k (suc left) xs s =
    let w = shelve ms k s in
    elim w.refusal [
      | Some e ↦ record { answer = Err e; shelf = w.shelf }
      | None ↦ elim (with_offsets rows sections xs (map procedure_offset w.shelf.procedures)) [
        | Ok after ↦ with_modules ms sections rows (k + 1) left after w.shelf
        | Err e ↦ record { answer = Err e; shelf = w.shelf }
      ]
    ]

-- every known start, and then, module by module, every procedure
abbrev pub listed : Modules → Built → ℕ → Shelved → Listed
listed ms c rows s =
    elim (with_offsets rows c.sections [] (map start_offset c.starts)) [
      | Ok xs ↦ with_modules ms c.sections rows 0 ms.count xs s
      | Err e ↦ record { answer = Err e; shelf = s }
    ]

-- how many addresses stand in the table, or a refusal; the table; and the shelf
pub record FoundList : Type 0 where
  pub answer : Result ℕ Refusal
  pub table : List Address
  pub shelf : Shelved

abbrev pub count_of : Result (List Address) Refusal → Result ℕ Refusal
count_of (Ok xs) = Ok (length xs)
count_of (Err e) = Err e

-- refused, every row is the empty row
abbrev pub table_of : List Address → Result (List Address) Refusal → List Address
table_of table (Ok xs) = xs ++ drop (length xs) table
table_of table (Err e) = replicate (length table) no_address

-- what a resolver whose shelf holds s answers, and what it leaves in a table
abbrev pub functions : Modules → Built → List Address → Shelved → FoundList
functions ms c table s = let l = listed ms c (length table) s in record { answer = count_of l.answer; table = table_of table l.answer; shelf = l.shelf }
