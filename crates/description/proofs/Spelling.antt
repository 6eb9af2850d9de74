-- Which row a line is hangs on its words alone. Assumes nothing.
use Rattle.std.proofs.Common.{if◌then◌else◌, ◌≡◌, ℕ, Bool, true, false, List, [], ◌∷◌, Some, None, Ok, Err, Option, refl, sym, ap, subst, rules}
use Rattle.words.specs.Lines.{Next, unquoted, quoted, nothing, next_of}
use Rattle.provider.specs.declared.symbols.ModuleState.TheVariants.{Present, Absent, Broken}
use Rattle.provider.specs.declared.symbols.Symbol.{Symbol}
use Rattle.provider.specs.declared.symbols.Symbol.TheVariants.{Other}
use Rattle.description.specs.declared.mistake.Mistake.{Mistake}
use Rattle.description.specs.declared.mistake.Mistake.TheVariants.{NumberTooLarge, CodeTooLarge, ModuleTooLarge, ThunkTooLong}
use Rattle.description.specs.declared.row.Row.{Row}
use Rattle.description.specs.Checks.{Checked, and_then}
use Rattle.description.specs.Words.{is, keyword_of, number_in, small, table_rows, length_in, section_offset, text_part}
use Rattle.description.specs.Fields.{Rest, whole, Field, given, and, into, Token, plain_word, quoted_word, next_from, next, some_word, word, unquoted_word, plain, keyword, no_more, end, checked, number, small_number, size, offset, in_quotes, name_of, name, text_of, text, length, fault, ended_by, ended, ending, extras_by, extras, list_ended_by, list_ending}
use Rattle.description.specs.Reading.{kind_of, kind, section, public, contribution, table_of, table, state_of, module_state, indexed, procedure, thunk, separated, site, record_of, file, lines, line, inlined, range, part_of, image_row_of, same, row_of, row, Written, whole_row}
use Rattle.description.specs.Spelling.{Spells, WordsDecide}

-- the same words are left
record Alike (ts : List Token) (r s : Rest) : Type 0 where
  quoted : r.quoted ≡ s.quoted
  first : Spells ts r.line
  second : Spells ts s.line

record SameReading {X : Type 0} (p q : X × Rest) : Type 0 where
  value : p.0 ≡ q.0
  words : List Token
  rest : Alike words p.1 q.1

abbrev Same : {X : Type 0} → Checked (X × Rest) → Checked (X × Rest) → Type 0
Same (Ok p) (Ok q) = SameReading p q
Same (Err m) (Err n) = m ≡ n
Same (Ok p) (Err n) = ⊥
Same (Err m) (Ok q) = ⊥

-- a field that goes by the words alone
abbrev Steady : {X : Type 0} → Field X → Type 0
Steady f = (ts : List Token) (r s : Rest) → Alike ts r s → Same (f r) (f s)

steady_given : {X : Type 0} (x : X) → Steady (given x)
steady_given x ts r s a = record { value = refl; words = ts; rest = a }

then_same : {X Y : Type 0} (k : X → Field Y) → ((x : X) → Steady (k x)) → (p q : Checked (X × Rest)) → Same p q → Same (and_then p (λ z. k z.0 z.1)) (and_then q (λ z. k z.0 z.1))
then_same k j (Ok p) (Ok q) h = subst (λ x. Same (k p.0 p.1) (k x q.1)) h.value (j p.0 h.words p.1 q.1 h.rest)
then_same k j (Err m) (Err n) h = h
then_same k j (Ok p) (Err n) h = absurd h
then_same k j (Err m) (Ok q) h = absurd h

steady_and : {X Y : Type 0} (f : Field X) (k : X → Field Y) → Steady f → ((x : X) → Steady (k x)) → Steady (and f k)
steady_and f k h j ts r s a = then_same k j (f r) (f s) (h ts r s a)

steady_into : {X Y : Type 0} (f : Field X) (make : X → Y) → Steady f → Steady (into f make)
steady_into f make h = steady_and f (λ x. given (make x)) h (λ x. steady_given (make x))

steady_if : {X : Type 0} (b : Bool) (f g : Field X) → Steady f → Steady g → Steady (if b then f else g)
steady_if true f g h k = h
steady_if false f g h k = k

steady_checked : {X : Type 0} (c : Checked X) → Steady (checked c)
steady_checked (Ok x) = steady_given x
steady_checked (Err m) = λ ts r s a. refl

steady_quotes : {X : Type 0} (raw : List ℕ) (x : X) → Steady (in_quotes raw x)
steady_quotes raw x ts r s a = record { value = refl; words = ts; rest = record { quoted = refl; first = a.first; second = a.second } }

-- the next word, by what is found
by_next : (r s : Rest) (n m : Next) → next_of r.line ≡ n → next_of s.line ≡ m → Same (next_from n r) (next_from m s) → Same (next r) (next s)
by_next r s n m e f h =
    subst (λ z. Same (next_from z r) (next s)) (sym e) (subst (λ z. Same (next_from n r) (next_from z s)) (sym f) h)

left_alike : (ts : List Token) (r s : Rest) (a b : List ℕ) → r.quoted ≡ s.quoted → Spells ts a → Spells ts b → Alike ts (record r { line = a }) (record s { line = b })
left_alike ts r s a b q h k = record { quoted = q; first = h; second = k }

s_next : Steady next
s_next [] r s a = by_next r s nothing nothing a.first a.second (record { value = refl; words = []; rest = a })
s_next (plain_word w ∷ ts) r s a =
    by_next r s (unquoted w a.first.0) (unquoted w a.second.0) a.first.1 a.second.1 (record { value = refl; words = ts; rest = left_alike ts r s a.first.0 a.second.0 a.quoted a.first.2 a.second.2 })
s_next (quoted_word w ∷ ts) r s a =
    by_next r s (quoted w a.first.0) (quoted w a.second.0) a.first.1 a.second.1 (record { value = refl; words = ts; rest = left_alike ts r s a.first.0 a.second.0 a.quoted a.first.2 a.second.2 })

s_some : (o : Option Token) → Steady (some_word o)
s_some None = λ ts r s a. refl
s_some (Some t) = steady_given t

s_word : Steady word
s_word = steady_and next some_word s_next s_some

s_unquoted : (t : Token) → Steady (unquoted_word t)
s_unquoted (plain_word w) = steady_given w
s_unquoted (quoted_word w) = λ ts r s a. refl

s_plain : Steady plain
s_plain = steady_and word unquoted_word s_word s_unquoted

s_keyword : Steady keyword
s_keyword = steady_into plain keyword_of s_plain

s_more : (o : Option Token) → Steady (no_more o)
s_more None = steady_given tt
s_more (Some t) = λ ts r s a. refl

s_end : Steady end
s_end = steady_and next no_more s_next s_more

-- what a plain word says
s_of : {X : Type 0} (f : List ℕ → Checked X) → Steady (and plain (λ w. checked (f w)))
s_of f = steady_and plain (λ w. checked (f w)) s_plain (λ w. steady_checked (f w))

s_number : Steady number
s_number = s_of (λ w. number_in w NumberTooLarge)

s_small : (m : Mistake) → Steady (small_number m)
s_small m = s_of (λ w. small w m)

s_size : Steady size
s_size = s_of table_rows

s_offset : Steady offset
s_offset = s_of section_offset

s_length : Steady length
s_length = s_of length_in

s_name_of : (t : Token) → Steady (name_of t)
s_name_of (plain_word w) = steady_checked (text_part w)
s_name_of (quoted_word raw) = steady_quotes raw _

s_name : Steady name
s_name = steady_and word name_of s_word s_name_of

s_text_of : (t : Token) → Steady (text_of t)
s_text_of (plain_word w) = λ ts r s a. refl
s_text_of (quoted_word raw) = steady_quotes raw tt

s_text : Steady text
s_text = steady_and word text_of s_word s_text_of

s_fault : Steady fault
s_fault = steady_into (small_number CodeTooLarge) _ (s_small CodeTooLarge)

s_ended : Steady ended
s_ended = steady_and keyword ended_by s_keyword (λ w. steady_if (is "clean" w) _ _ (steady_given _) (steady_if (is "fault" w) _ _ s_fault (λ ts r s a. refl)))

s_ending : Steady ending
s_ending = steady_and keyword _ s_keyword (λ w. steady_if (is "end" w) _ _ s_ended (λ ts r s a. refl))

s_extras : Steady extras
s_extras = steady_and keyword extras_by s_keyword (λ w. steady_if (is "readable" w) _ _ (steady_given _) (steady_if (is "fault" w) _ _ s_fault (λ ts r s a. refl)))

s_list_ended : (o : Option Token) → Steady (list_ended_by o)
s_list_ended None = steady_given _
s_list_ended (Some (plain_word w)) = steady_if (is "fault" (keyword_of w)) _ _ s_fault (λ ts r s a. refl)
s_list_ended (Some (quoted_word w)) = λ ts r s a. refl

s_list_ending : Steady list_ending
s_list_ending = steady_and next list_ended_by s_next s_list_ended

s_kind : Steady kind
s_kind = steady_and keyword kind_of s_keyword (λ w. steady_if (is "executable" w) _ _ (steady_given _) (steady_if (is "data" w) _ _ (steady_given _) (λ ts r s a. refl)))

s_section : Steady section
s_section = steady_and number _ s_number (λ a. steady_and number _ s_number (λ n. steady_and kind _ s_kind (λ e. steady_given _)))

s_public : Steady public
s_public = steady_and offset _ s_offset (λ o. steady_and name _ s_name (λ n. steady_given _))

s_contribution : Steady contribution
s_contribution =
    steady_and offset _ s_offset (λ o. steady_and number _ s_number (λ n. steady_and (small_number ModuleTooLarge) _ (s_small ModuleTooLarge) (λ m. steady_given _)))

s_table : Steady table
s_table =
    steady_and keyword table_of s_keyword (λ w. steady_if (is "starts" w) _ _ (steady_into size _ s_size) (steady_if (is "contributions" w) _ _ (steady_into size _ s_size) (steady_if (is "frames" w) _ _ (steady_into size _ s_size) (steady_if (is "addresses" w) _ _ (steady_into size _ s_size) (λ ts r s a. refl)))))

s_state : Steady module_state
s_state =
    steady_and keyword state_of s_keyword (λ w. steady_if (is "present" w) _ _ (steady_given Present) (steady_if (is "absent" w) _ _ (steady_given Absent) (steady_if (is "broken" w) _ _ (steady_given Broken) (λ ts r s a. refl))))

s_indexed : (f : Field Symbol) → Steady f → Steady (indexed f)
s_indexed f h = steady_and number _ s_number (λ i. steady_and f _ h (λ s. steady_given _))

s_procedure : Steady procedure
s_procedure =
    steady_and offset _ s_offset (λ o. steady_and number _ s_number (λ n. steady_and number _ s_number (λ e. steady_and number _ s_number (λ t. steady_and name _ s_name (λ m. steady_given _)))))

s_thunk : Steady thunk
s_thunk =
    steady_and offset _ s_offset (λ o. steady_and (small_number ThunkTooLong) _ (s_small ThunkTooLong) (λ n. steady_and number _ s_number (λ e. steady_and name _ s_name (λ m. steady_given _))))

s_separated : Steady separated
s_separated =
    steady_and offset _ s_offset (λ o. steady_and number _ s_number (λ n. steady_and number _ s_number (λ e. steady_and offset _ s_offset (λ p. steady_given _))))

s_site : Steady site
s_site = steady_and number _ s_number (λ i. steady_and number _ s_number (λ e. steady_given _))

s_record : (w : List ℕ) → Steady (record_of w)
unfolding record_of
s_record w =
    steady_if (is "procedure" w) _ _ (s_indexed procedure s_procedure) (steady_if (is "thunk" w) _ _ (s_indexed thunk s_thunk) (steady_if (is "separated" w) _ _ (s_indexed separated s_separated) (steady_if (is "site" w) _ _ (s_indexed site s_site) (steady_if (is "other" w) _ _ (s_indexed (given Other) (steady_given Other)) (λ ts r s a. refl)))))

s_file : Steady file
s_file = steady_and number _ s_number (λ i. steady_and name _ s_name (λ n. steady_given _))

s_lines : Steady lines
s_lines = steady_and offset _ s_offset (λ o. steady_and list_ending _ s_list_ending (λ e. steady_given _))

s_line : Steady line
s_line = steady_and number _ s_number (λ o. steady_and number _ s_number (λ f. steady_and number _ s_number (λ l. steady_given _)))

s_inlined : Steady inlined
s_inlined = steady_and number _ s_number (λ s. steady_and offset _ s_offset (λ o. steady_and list_ending _ s_list_ending (λ e. steady_given _)))

s_range : Steady range
s_range =
    steady_and number _ s_number (λ o. steady_and length _ s_length (λ n. steady_and number _ s_number (λ f. steady_and number _ s_number (λ l. steady_given _))))

s_part : (w : List ℕ) → Steady (part_of w)
unfolding part_of
s_part w =
    steady_if (is "symbols" w) _ _ (steady_into ending _ s_ending) (steady_if (is "extras" w) _ _ (steady_into extras _ s_extras) (steady_if (is "file" w) _ _ s_file (steady_if (is "lines" w) _ _ s_lines (steady_if (is "line" w) _ _ s_line (steady_if (is "inlined" w) _ _ s_inlined (steady_if (is "range" w) _ _ s_range (steady_into (record_of w) _ (s_record w))))))))

s_image : (w : List ℕ) → Steady (image_row_of w)
unfolding image_row_of
s_image w =
    steady_if (is "section" w) _ _ (steady_into section _ s_section) (steady_if (is "public" w) _ _ (steady_into public _ s_public) (steady_if (is "contribution" w) _ _ (steady_into contribution _ s_contribution) (steady_if (is "publics" w) _ _ (steady_into ending _ s_ending) (steady_if (is "contributions" w) _ _ (steady_into ending _ s_ending) (steady_if (is "table" w) _ _ (steady_into table _ s_table) (steady_into (part_of w) _ (s_part w)))))))

s_same : Steady same
s_same = steady_and number _ s_number (λ a. steady_and number _ s_number (λ b. steady_given _))

s_row_of : (w : List ℕ) → Steady (row_of w)
s_row_of w =
    steady_if (is "text" w) _ _ (steady_into text _ s_text) (steady_if (is "module" w) _ _ (steady_into module_state _ s_state) (steady_if (is "hide" w) _ _ (steady_into (small_number ModuleTooLarge) _ (s_small ModuleTooLarge)) (steady_if (is "find" w) _ _ (steady_into number _ s_number) (steady_if (is "frames" w) _ _ (steady_into number _ s_number) (steady_if (is "list" w) _ _ (steady_given _) (steady_if (is "same" w) _ _ (steady_into same _ s_same) (s_image w)))))))

s_row : (t : Token) → Steady (row t)
s_row (plain_word w) = s_row_of (keyword_of w)
s_row (quoted_word w) = λ ts r s a. refl

whole_line : (t : Token) → Steady (and (row t) (λ x. into end (λ _. x)))
whole_line t = steady_and (row t) _ (s_row t) (λ x. steady_into end _ s_end)

written_same : (p q : Checked (Row × Rest)) → Same p q → and_then p (λ z. Ok (Some (record { row = z.0; quoted = z.1.quoted }))) ≡ and_then {Y = Option Written} q (λ z. Ok (Some (record { row = z.0; quoted = z.1.quoted })))
written_same (Ok p) (Ok q) h = let v = h.value in let w = h.rest.quoted in search rules
written_same (Err m) (Err n) h = ap (λ z. Err z) h
written_same (Ok p) (Err n) h = absurd h
written_same (Err m) (Ok q) h = absurd h

whole_same : (o : Option Token) (ts : List Token) (r s : Rest) → Alike ts r s → whole_row o r ≡ whole_row o s
whole_same None ts r s a = refl
whole_same (Some t) ts r s a = written_same _ _ (whole_line t ts r s a)

row_same : (p q : Checked (Option Token × Rest)) → Same p q → and_then p (λ z. whole_row z.0 z.1) ≡ and_then q (λ z. whole_row z.0 z.1)
row_same (Ok p) (Ok q) h = subst (λ o. whole_row p.0 p.1 ≡ whole_row o q.1) h.value (whole_same p.0 h.words p.1 q.1 h.rest)
row_same (Err m) (Err n) h = ap (λ z. Err z) h
row_same (Ok p) (Err n) h = absurd h
row_same (Err m) (Ok q) h = absurd h

pub words_decide : WordsDecide
words_decide ts l m h k = row_same (next (whole l)) (next (whole m)) (s_next ts (whole l) (whole m) (record { quoted = refl; first = h; second = k }))
