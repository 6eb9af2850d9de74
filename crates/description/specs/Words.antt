-- What a plain word says. Assumes nothing.
use Rattle.std.specs.Prelude.{if◌then◌else◌, ℕ, ◌^◌, ◌-◌, Bool, List, [], codes, bytes_eq, Some, None, Ok, Err, Option, Result, ◌==◌, nat_le}
use Prim.Native.String.{String}
use Rattle.std.specs.List.{list_any}
use Rattle.std.specs.Str.{is_utf8}
use Rattle.base.specs.declared.image.SectionOffset.{SectionOffset}
use Rattle.base.specs.declared.image.TextPart.{TextPart}
use Rattle.words.specs.Cuts.{cut_at}
use Rattle.words.specs.Numbers.{number_of}
use Rattle.words.specs.declared.number.NotNumber.{NotNumber}
use Rattle.words.specs.declared.number.NotNumber.TheVariants.{NotDigits, TooLarge}
use Rattle.description.specs.declared.mistake.Mistake.{Mistake}
use Rattle.description.specs.declared.mistake.Mistake.TheVariants.{NotANumber, NumberTooLarge, SectionTooLarge, TableTooLarge, NotAnOffset, NotAName}
use Rattle.description.specs.Checks.{Checked, and_then}

-- whether a word is one of the format's
abbrev pub is : String → List ℕ → Bool
is s w = bytes_eq w (codes s)

-- all words of the format are texts; any other word is as good as none
unfoldable pub keyword_of : List ℕ → List ℕ
keyword_of w = if is_utf8 w then w else []

abbrev pub number_or : Mistake → Result ℕ NotNumber → Checked ℕ
number_or too_large (Ok n) = Ok n
number_or too_large (Err NotDigits) = Err NotANumber
number_or too_large (Err TooLarge) = Err too_large

unfoldable pub number_in : List ℕ → Mistake → Checked ℕ
number_in w too_large = number_or too_large (number_of w)

-- a number that is at most `most`
abbrev pub bounded : List ℕ → ℕ → Mistake → Checked ℕ
bounded w most too_large = and_then (number_in w too_large) (λ n. if nat_le n most then Ok n else Err too_large)

abbrev pub small : List ℕ → Mistake → Checked ℕ
small w too_large = bounded w (2 ^ 16 - 1) too_large

abbrev pub table_rows : List ℕ → Checked ℕ
table_rows w = bounded w (2 ^ 24) TableTooLarge

abbrev pub length_in : List ℕ → Checked (Option ℕ)
length_in w = if is "none" (keyword_of w) then Ok None else and_then (number_in w NumberTooLarge) (λ n. Ok (Some n))

-- SECTION:OFFSET, where a colon is the byte 58
abbrev pub offset_parts : Option (List ℕ × List ℕ) → Checked SectionOffset
offset_parts None = Err NotAnOffset
offset_parts (Some p) =
    and_then (small p.0 SectionTooLarge) (λ s. and_then (number_in p.1 NumberTooLarge) (λ o. Ok (record { section = s; offset = o })))

abbrev pub section_offset : List ℕ → Checked SectionOffset
section_offset w = offset_parts (cut_at 58 w)

-- START+LENGTH, where a plus is the byte 43; a word with a colon is an offset and no name
abbrev pub name_parts : Option (List ℕ × List ℕ) → Checked TextPart
name_parts None = Err NotAName
name_parts (Some p) =
    and_then (number_in p.0 NumberTooLarge) (λ s. and_then (number_in p.1 NumberTooLarge) (λ n. Ok (record { start = s; length = n })))

abbrev pub text_part : List ℕ → Checked TextPart
text_part w = if list_any (λ c. c == 58) w then Err NotAName else name_parts (cut_at 43 w)
