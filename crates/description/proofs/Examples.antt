-- A line of each kind and the row that it is, some lines that are none, and a whole text. Assumes nothing.
use Rattle.std.proofs.Common.{◌≡◌, ℕ, true, false, List, [], ◌∷◌, ◌++◌, map, Some, None, Ok, Err, Option, inr, ⊎_elim, subst, arith, refl}
use Prim.Native.String.{String}
use Rattle.std.specs.Prelude.{codes}
use Rattle.std.specs.List.{join_with_byte}
use Rattle.std.specs.Str.{is_utf8, chars}
use lib.Utf8.{encode}
use Rattle.base.specs.Lists.{clean}
use Rattle.base.specs.declared.image.SectionOffset.{SectionOffset}
use Rattle.base.specs.declared.image.TextPart.{TextPart}
use Rattle.provider.specs.declared.symbols.ModuleState.TheVariants.{Present, Absent, Broken}
use Rattle.provider.specs.declared.symbols.Symbol.{Symbol}
use Rattle.provider.specs.declared.symbols.Symbol.TheVariants.{Procedure, Thunk, SeparatedCode, InlineSite, Other}
use Rattle.description.specs.declared.mistake.Mistake.{Mistake}
use Rattle.description.specs.declared.mistake.Mistake.TheVariants.{UnknownRow, MissingWord, ExtraWord, QuoteLeftOpen, QuotedWord, NotANumber, NumberTooLarge, NotAKind, NotAName}
use Rattle.description.specs.declared.mistake.ReadError.TheVariants.{At}
use Rattle.description.specs.declared.question.Question.TheVariants.{Find, Frames, List as Listed, Same}
use Rattle.description.specs.declared.row.ImageRow.TheVariants.{Section as SectionRow, Public, Contribution, PublicsEnd, ContributionsEnd, StartTable, ContributionTable, FrameTable, AddressTable}
use Rattle.description.specs.declared.row.ModulePart.TheVariants.{Symbol as SymbolPart, SymbolsEnd, Extras, File, Lines, Line, Inlined, Range}
use Rattle.description.specs.declared.row.Row.{Row}
use Rattle.description.specs.declared.row.Row.TheVariants.{Text, Image, Module, Part, Hide, Ask}
use Rattle.description.specs.Described.{description_of}
use Rattle.description.specs.Checks.{Checked}
use Rattle.description.specs.Drafts.{Lists, nothing, parts_nothing, line_said}
use Rattle.description.specs.Fields.{no_place}
use Rattle.description.specs.Memory.{RowGrows, LineGrows}
use Rattle.description.specs.Reading.{Written, line_row, image_row_of, part_of, record_of}
use Rattle.description.specs.Words.{keyword_of, number_in}

abbrev at : ℕ → ℕ → SectionOffset
at s o = record { section = s; offset = o }

abbrev part : ℕ → ℕ → TextPart
part s n = record { start = s; length = n }

-- the line is this row, and has nothing in quotes
abbrev Is : String → Row → Type 0
Is line r = line_row (codes line) ≡ Ok (Some (record { row = r; quoted = None }))

-- the line is this row, with this text in quotes
abbrev Quotes : String → Row → String → Type 0
Quotes line r q = line_row (codes line) ≡ Ok (Some (record { row = r; quoted = Some (codes q) }))

abbrev Fails : String → Mistake → Type 0
Fails line m = line_row (codes line) ≡ Err m

abbrev record_row : ℕ → Symbol → Row
record_row i s = Part (SymbolPart (record { index = i; symbol = s }))

blank : line_row (codes "  # nothing") ≡ Ok None
blank = refl

image_rows : Quotes "text \"a name\"" Text "a name"
    × Is "section 0x1000 512 executable # code" (Image (SectionRow (record { address = 4096; size = 512; executable = true })))
    × Is "section 0x2000 0x80 data" (Image (SectionRow (record { address = 8192; size = 128; executable = false })))
    × Is "public 1:0x40 3+4" (Image (Public (record { offset = at 1 64; name = part 3 4 })))
    × Quotes "public 1:0x40 \"main\"" (Image (Public (record { offset = at 1 64; name = no_place }))) "main"
    × Is "contribution 2:8 16 7" (Image (Contribution (record { offset = at 2 8; size = 16; «module» = 7 })))
    × Is "publics end clean" (Image (PublicsEnd clean))
    × Is "contributions end fault 9" (Image (ContributionsEnd (Err (record { 0 = 9 }))))
    × Is "table starts 5" (Image (StartTable 5))
    × Is "table contributions 6" (Image (ContributionTable 6))
    × Is "table frames 7" (Image (FrameTable 7))
    × Is "table addresses 8" (Image (AddressTable 8))
unfolding keyword_of is_utf8 chars encode image_row_of number_in
image_rows = (refl, refl, refl, refl, refl, refl, refl, refl, refl, refl, refl, refl)

module_rows : Is "module present" (Module Present)
    × Is "module absent" (Module Absent)
    × Is "module broken" (Module Broken)
    × Is "procedure 1 1:2 3 4 5 6+7" (record_row 1 (Procedure (at 1 2) 3 4 5 (part 6 7)))
    × Is "thunk 1 1:2 3 4 5+6" (record_row 1 (Thunk (at 1 2) 3 4 (part 5 6)))
    × Is "separated 1 1:2 3 4 5:6" (record_row 1 (SeparatedCode (at 1 2) 3 4 (at 5 6)))
    × Is "site 1 2 3" (record_row 1 (InlineSite 2 3))
    × Is "other 1" (record_row 1 Other)
    × Is "symbols end fault 2" (Part (SymbolsEnd (Err (record { 0 = 2 }))))
    × Is "extras readable" (Part (Extras clean))
    × Is "file 1 2+3" (Part (File (record { number = 1; name = part 2 3 })))
    × Is "lines 1:2" (Part (Lines (at 1 2) clean))
    × Is "line 1 2 3" (Part (Line (record { offset = 1; file = 2; line = 3 })))
    × Is "inlined 1 2:3 fault 4" (Part (Inlined 1 (at 2 3) (Err (record { 0 = 4 }))))
    × Is "range 1 2 3 4" (Part (Range (record { offset = 1; length = Some 2; file = 3; line = 4 })))
    × Is "range 1 none 3 4" (Part (Range (record { offset = 1; length = None; file = 3; line = 4 })))
unfolding keyword_of is_utf8 chars encode image_row_of part_of record_of number_in
module_rows = (refl, refl, refl, refl, refl, refl, refl, refl, refl, refl, refl, refl, refl, refl, refl, refl)

questions : Is "hide 3" (Hide 3)
    × Is "find 0x1040" (Ask (Find 4160))
    × Is "frames 1" (Ask (Frames 1))
    × Is "list" (Ask Listed)
    × Is "same 1 2" (Ask (Same 1 2))
unfolding keyword_of is_utf8 chars encode number_in
questions = (refl, refl, refl, refl, refl)

-- the first mistake of a line is the one that is told
mistakes : Fails "sections 1 2 data" UnknownRow
    × Fails "section 1" MissingWord
    × Fails "section 1 2 data 3" ExtraWord
    × Fails "section 1 2 code extra" NotAKind
    × Fails "section one 2 code" NotANumber
    × Fails "section 0x100000000 2 data" NumberTooLarge
    × Fails "section \"1\" 2 data" QuotedWord
    × Fails "public 1:2 \"main" QuoteLeftOpen
    × Fails "public 1:2 main" NotAName
unfolding keyword_of is_utf8 chars encode image_row_of part_of record_of number_in
mistakes = (refl, refl, refl, refl, refl, refl, refl, refl, refl)

abbrev text_of : List String → List ℕ
text_of ls = join_with_byte 10 (map (λ l. codes l) ls)

-- the first example of docs/FORMAT.md
small : description_of (text_of ("# two sections, one function in each" ∷ "section 0x1000 0x200 executable" ∷ "section 0x2000 0x80 data" ∷ "public 1:0x40 \"main\"" ∷ "public 2:0 \"table\\x00of\\\"names\\\"\"" ∷ "contribution 1:0 0x200 0" ∷ "contribution 2:0 0x80 0" ∷ []))
    ≡ Ok (record {
      text = codes "maintable" ++ (0 ∷ codes "of\"names\"");
      sections = record { address = 4096; size = 512; executable = true } ∷ record { address = 8192; size = 128; executable = false } ∷ [];
      symbols = record { offset = at 1 64; name = part 0 4 } ∷ record { offset = at 2 0; name = part 4 15 } ∷ [];
      contributions = record { offset = at 1 0; size = 512; «module» = 0 } ∷ record { offset = at 2 0; size = 128; «module» = 0 } ∷ [];
      symbols_end = clean;
      contributions_end = clean;
      start_rows = 6;
      contribution_rows = 2;
      frame_rows = 33;
      address_rows = 6;
      modules = [];
      parts = parts_nothing;
      hidden = [];
      questions = [];
    })
unfolding keyword_of is_utf8 chars encode image_row_of number_in line_said
small = refl

wrong_line : description_of (text_of ("# nothing" ∷ "" ∷ "section 1 2 code" ∷ "list" ∷ [])) ≡ Err (At 3 NotAKind)
unfolding keyword_of is_utf8 chars encode image_row_of number_in line_said
wrong_line = refl

-- a blank line makes nothing longer, nor does an end that is said; a section does
blank_grows : (a : Lists) → LineGrows (codes "  # nothing") a → ⊥
blank_grows a g = absurd cc

end_grows : (a : Lists) → LineGrows (codes "publics end clean") a → ⊥
unfolding keyword_of is_utf8 chars encode image_row_of number_in
end_grows a g = ⊎_elim (λ x. x) (λ p. p.0) (subst (λ w. RowGrows w a) (written_one _ _ g.1) g.2)
  where
    written_one : (v w : Written) → ◌≡◌ {A = Checked (Option Written)} (Ok (Some v)) (Ok (Some w)) → w ≡ v
    written_one v w e = grind (arith)

section_grows : LineGrows (codes "section 0x1000 512 executable") nothing
unfolding keyword_of is_utf8 chars encode image_row_of number_in
section_grows = (_, refl, inr (tt, refl))
