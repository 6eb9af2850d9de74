-- What stands at the front of a line, word by word. Assumes nothing.
use Rattle.std.specs.Prelude.{if◌then◌else◌, ℕ, List, Some, None, Ok, Err, Option}
use Rattle.std.specs.Option.{option_map}
use Rattle.base.specs.Lists.{Ending, clean}
use Rattle.base.specs.declared.image.SectionOffset.{SectionOffset}
use Rattle.base.specs.declared.image.TextPart.{TextPart}
use Rattle.words.specs.Lines.{Next, unquoted, quoted, nothing, cut_off, next_of}
use Rattle.words.specs.declared.scan.Word.{Word}
use Rattle.words.specs.declared.scan.Word.TheVariants.{Plain, Quoted}
use Rattle.description.specs.declared.fields.Fields.{Fields}
use Rattle.description.specs.declared.mistake.Mistake.{Mistake}
use Rattle.description.specs.declared.mistake.Mistake.TheVariants.{MissingWord, ExtraWord, QuoteLeftOpen, QuotedWord, NotQuoted, NumberTooLarge, CodeTooLarge, NotAnEnding, NotAFault, NotExtras}
use Rattle.description.specs.Checks.{Checked, and_then}
use Rattle.description.specs.Words.{is, keyword_of, number_in, small, table_rows, length_in, section_offset, text_part}

-- what is left of a line, and the quoted word that stood before it
pub record Rest : Type 0 where
  pub line : List ℕ
  pub quoted : Option (List ℕ)

abbrev pub whole : List ℕ → Rest
whole line = record { line = line; quoted = None }

-- what stands at the front of the rest, and what is left after it
abbrev pub Field : Type 0 → Type 0
Field X = Rest → Checked (X × Rest)

abbrev pub given : {X : Type 0} → X → Field X
given x r = Ok (x, r)

abbrev pub wrong : {X : Type 0} → Mistake → Field X
wrong m r = Err m

-- a field, and after it the one that it leads to
abbrev pub and : {X Y : Type 0} → Field X → (X → Field Y) → Field Y
and f k r = and_then (f r) (λ p. k p.0 p.1)

abbrev pub into : {X Y : Type 0} → Field X → (X → Y) → Field Y
into f make = and f (λ x. given (make x))

pub data Token : Type 0 where
  plain_word : List ℕ → Token
  quoted_word : List ℕ → Token

abbrev pub next_from : Next → Field (Option Token)
next_from (unquoted w line) r = Ok (Some (plain_word w), record r { line = line })
next_from (quoted w line) r = Ok (Some (quoted_word w), record r { line = line })
next_from nothing r = Ok (None, r)
next_from cut_off r = Err QuoteLeftOpen

-- the next word, or none at the line's end
abbrev pub next : Field (Option Token)
next r = next_from (next_of r.line) r

abbrev pub some_word : Option Token → Field Token
some_word None = wrong MissingWord
some_word (Some t) = given t

abbrev pub word : Field Token
word = and next some_word

abbrev pub unquoted_word : Token → Field (List ℕ)
unquoted_word (plain_word w) = given w
unquoted_word (quoted_word w) = wrong QuotedWord

abbrev pub plain : Field (List ℕ)
plain = and word unquoted_word

abbrev pub keyword : Field (List ℕ)
keyword = into plain keyword_of

abbrev pub no_more : Option Token → Field (Unit {0})
no_more None = given tt
no_more (Some t) = wrong ExtraWord

abbrev pub end : Field (Unit {0})
end = and next no_more

abbrev pub checked : {X : Type 0} → Checked X → Field X
checked (Ok x) = given x
checked (Err m) = wrong m

abbrev pub number : Field ℕ
number = and plain (λ w. checked (number_in w NumberTooLarge))

abbrev pub small_number : Mistake → Field ℕ
small_number too_large = and plain (λ w. checked (small w too_large))

abbrev pub size : Field ℕ
size = and plain (λ w. checked (table_rows w))

abbrev pub offset : Field SectionOffset
offset = and plain (λ w. checked (section_offset w))

abbrev pub in_quotes : {X : Type 0} → List ℕ → X → Field X
in_quotes raw x r = Ok (x, record r { quoted = Some raw })

-- a quoted name has no place yet
abbrev pub no_place : TextPart
no_place = record { start = 0; length = 0 }

abbrev pub name_of : Token → Field TextPart
name_of (plain_word w) = checked (text_part w)
name_of (quoted_word raw) = in_quotes raw no_place

abbrev pub name : Field TextPart
name = and word name_of

abbrev pub text_of : Token → Field (Unit {0})
text_of (plain_word w) = wrong NotQuoted
text_of (quoted_word raw) = in_quotes raw tt

abbrev pub text : Field (Unit {0})
text = and word text_of

abbrev pub length : Field (Option ℕ)
length = and plain (λ w. checked (length_in w))

abbrev pub fault : Field Ending
fault = into (small_number CodeTooLarge) (λ c. Err (record { 0 = c }))

-- `clean`, or `fault` and its code
abbrev pub ended_by : List ℕ → Field Ending
ended_by w = if is "clean" w then given clean else if is "fault" w then fault else wrong NotAnEnding

abbrev pub ended : Field Ending
ended = and keyword ended_by

abbrev pub ending : Field Ending
ending = and keyword (λ w. if is "end" w then ended else wrong NotAnEnding)

abbrev pub extras_by : List ℕ → Field Ending
extras_by w = if is "readable" w then given clean else if is "fault" w then fault else wrong NotExtras

abbrev pub extras : Field Ending
extras = and keyword extras_by

-- a list ends clean, unless the line goes on with a fault
abbrev pub list_ended_by : Option Token → Field Ending
list_ended_by None = given clean
list_ended_by (Some (plain_word w)) = if is "fault" (keyword_of w) then fault else wrong NotAFault
list_ended_by (Some (quoted_word w)) = wrong NotAFault

abbrev pub list_ending : Field Ending
list_ending = and next list_ended_by

-- what the code has read: words by their bytes, and of a line what is left
abbrev pub token : Word → Token
token (Plain w) = plain_word w.now
token (Quoted w) = quoted_word w.now

abbrev pub left : Fields → Rest
left f = record { line = f.words.rest.now; quoted = option_map (λ w. w.now) f.quoted }

abbrev pub gave_as : {X Y : Type 0} → (X → Y) → Checked X → Fields → Checked (Y × Rest)
gave_as view (Ok x) f = Ok (view x, left f)
gave_as view (Err m) f = Err m

abbrev pub gave : {X : Type 0} → Checked X → Fields → Checked (X × Rest)
gave r f = gave_as (λ x. x) r f
