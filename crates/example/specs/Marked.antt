-- What the rules give for the example image. Assumes nothing.
use Rattle.std.specs.Prelude.{◌≡◌, ℕ, List, [], ◌∷◌, map, replicate, Some, None, Ok, Err, Option, Result}
use Rattle.base.specs.declared.image.TextPart.{TextPart}
use Rattle.base.specs.declared.image.SectionContribution.{SectionContribution}
use Rattle.base.specs.declared.context.KnownStart.{KnownStart}
use Rattle.base.specs.declared.refusal.Refusal.{Refusal}
use Rattle.base.specs.declared.refusal.Refusal.TheVariants.{FrameTableShort, AddressTableFull}
use Rattle.image.specs.Image.{Lawful}
use Rattle.provider.specs.Modules.{Regular}
use Rattle.building.specs.Blocks.{end_of}
use Rattle.building.specs.Outcome.{Built, Outcome, outside}
use Rattle.procedures.specs.declared.function.Function.{Function}
use Rattle.procedures.specs.declared.name.NameRow.{NameRow}
use Rattle.procedures.specs.declared.name.NameRow.TheVariants.{Raw, Typed, Id}
use Rattle.lookup.specs.Reading.{empty_shelf}
use Rattle.lookup.specs.Finding.{find_function}
use Rattle.frames.specs.declared.frame.Frame.{Frame}
use Rattle.inlining.specs.Finding.{FoundFrames, find_frames}
use Rattle.addresses.specs.Rows.{no_address}
use Rattle.addresses.specs.declared.Address.{Address}
use Rattle.listing.specs.Listing.{FoundList, functions}
use Rattle.example.specs.Image.{name_qa, name_b, name_a, place, image, modules}

abbrev pub start : ℕ → Option TextPart → KnownStart
start offset name = record { offset = place 1 offset; name = name }

-- the context of the image
abbrev pub built : Built
built = record {
  sections = image.sections;
  starts = start 16 (Some name_qa) ∷ start 32 None ∷ start 64 (Some name_b) ∷ start 256 None ∷ [];
  contributions = record { section = 1; start = 0; end = 64; «module» = 0 } ∷ record { section = 1; start = 64; end = 128; «module» = 1 } ∷ [];
}

-- what a fresh resolver answers for an address
abbrev pub found : ℕ → Result (Option Function) Refusal
found a = (find_function image.text modules built a empty_shelf).answer

-- from an address up to another, under a name
abbrev pub function : ℕ → ℕ → NameRow → Result (Option Function) Refusal
function from to name = Ok (Some (record { start_rva = from; end_rva = Some to; name = name }))

-- the frames that a fresh resolver finds, given a table
abbrev pub frames : ℕ → List Frame → FoundFrames
frames a table = find_frames image.text modules built a table empty_shelf

-- the frame of a call that is inlined, with its file and its line
abbrev pub inlined : ℕ → ℕ → Option ℕ → Frame
inlined inlinee file line = record { name = Id 0 inlinee; file = Some (record { number = file; name = None }); line = line }

-- the frame of the function from 4112 up to 4120
abbrev pub outermost : Frame
outermost = record { name = Raw name_qa; file = None; line = None }

-- so many frames were found of that function, and the table holds these rows
abbrev pub Framed : FoundFrames → ℕ → List Frame → Type 0
Framed f n rows = (f.answer ≡ Ok (Some (record { start_rva = 4112; end_rva = Some 4120; frames = n }))) × (f.table ≡ rows)

-- the list of functions that a fresh resolver gives, given a table
abbrev pub addresses : List Address → FoundList
addresses table = functions modules built table empty_shelf

abbrev pub address : ℕ → Address
address a = record { rva = a }

pub record Marked : Type 0 where
  -- a source and a provider can mean this
  pub lawful : Lawful image
  pub regular : Regular modules
  -- four rows for starts and two for contributions suffice for the context
  pub builds : Outcome image 4 2 (Ok built)
  -- no start lies at or below 4096
  pub no_start : found 4096 ≡ Ok None
  -- the procedure takes the name of the known start at its offset
  pub procedure_first : found 4112 ≡ function 4112 4120 (Raw name_qa)
  pub procedure_last : found 4119 ≡ function 4112 4120 (Raw name_qa)
  -- past its end the known starts decide
  pub past_procedure : found 4120 ≡ function 4112 4128 (Raw name_qa)
  -- separated code takes the name of its parent, and no start stands there
  pub separated : found 4136 ≡ function 4136 4144 (Typed name_a 0 0)
  -- a module that is absent has no procedures
  pub absent_first : found 4160 ≡ function 4160 4352 (Raw name_b)
  pub absent_last : found 4223 ≡ function 4160 4352 (Raw name_b)
  -- the end of a contribution is not in it
  pub past_contributions : found 4224 ≡ Ok None
  -- under the row of the outer call
  pub outer_call : (x y z : Frame) → Framed (frames 4113 (x ∷ y ∷ z ∷ [])) 2 (inlined 7 1 (Some 10) ∷ outermost ∷ z ∷ [])
  -- under the row of the inner call, which the outer one covers too, without a line
  pub inner_call : (x y z : Frame) → Framed (frames 4114 (x ∷ y ∷ z ∷ [])) 3 (inlined 8 2 (Some 20) ∷ inlined 7 1 None ∷ outermost ∷ [])
  -- under neither
  pub no_call : (x y z : Frame) → Framed (frames 4116 (x ∷ y ∷ z ∷ [])) 1 (outermost ∷ y ∷ z ∷ [])
  -- a table that is too short stays as it is
  pub short_table : (x y : Frame) → let f = frames 4114 (x ∷ y ∷ []) in (f.answer ≡ Err (FrameTableShort 3)) × (f.table ≡ x ∷ y ∷ [])
  -- the known starts and the procedures, each address once
  pub listed : (v w x y z : Address) → let l = addresses (v ∷ w ∷ x ∷ y ∷ z ∷ []) in (l.answer ≡ Ok 5) × (l.table ≡ map address (4112 ∷ 4128 ∷ 4136 ∷ 4160 ∷ 4352 ∷ []))
  -- a table that is too short is emptied
  pub full_table : (w x y z : Address) → let l = addresses (w ∷ x ∷ y ∷ z ∷ []) in (l.answer ≡ Err AddressTableFull) × (l.table ≡ replicate 4 no_address)
  -- a contribution may end at the greatest offset
  pub at_top : (k : ℕ) (c : SectionContribution) → end_of c ≡ 4294967295 → outside k c ≡ None
