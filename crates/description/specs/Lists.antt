-- How the lists of a description grow. Assumes nothing.
use Rattle.std.specs.Prelude.{if◌then◌else◌, ℕ, ◌+◌, ◌^◌, List, [], ◌∷◌, ◌++◌, length, Some, None, Ok, Err, Option, nat_lt}
use Rattle.std.specs.Option.{option_map, ok_or}
use Rattle.base.specs.declared.image.TextPart.{TextPart}
use Rattle.modules.specs.declared.tables.RowRange.{RowRange}
use Rattle.words.specs.Quotes.{unquoted}
use Rattle.description.specs.declared.mistake.Mistake.{Mistake}
use Rattle.description.specs.declared.mistake.Mistake.TheVariants.{BadEscape, TextTooLong, TooManyRows}
use Rattle.description.specs.Checks.{Checked, and_then}

-- fewer than 2 ^ 32 items
abbrev pub short : {X : Type 0} → Mistake → List X → Checked (List X)
short too_long xs = if nat_lt (length xs) (2 ^ 32) then Ok xs else Err too_long

abbrev pub pushed : {X : Type 0} → List X → X → Checked (List X)
pushed xs x = short TooManyRows (xs ++ x ∷ [])

-- the text with what `raw` stands for at its end, and where that stands
abbrev pub appended : List ℕ → List ℕ → Checked (List ℕ × TextPart)
appended raw old =
    and_then (ok_or (unquoted raw) BadEscape) (λ bs. and_then (short TextTooLong (old ++ bs)) (λ new. Ok (new, record { start = length old; length = length bs })))

-- something that is said once
abbrev pub once : {X : Type 0} → Mistake → Option X → X → Checked (Option X)
once twice None x = Ok (Some x)
once twice (Some y) x = Err twice

-- the last item, and what stands before it
abbrev pub split_last : {X : Type 0} → List X → Option (List X × X)
split_last [] = None
split_last (x ∷ []) = Some ([], x)
split_last (x ∷ y ∷ ys) = option_map (λ q. (x ∷ q.0, q.1)) (split_last (y ∷ ys))

abbrev pub newest : {X : Type 0} → Mistake → List X → Checked (List X × X)
newest none xs = ok_or (split_last xs) none

-- a part of a table, with the row that comes next
abbrev pub grown : RowRange → Checked RowRange
grown p = if nat_lt (p.count + 1) (2 ^ 32) then Ok (record p { count = p.count + 1 }) else Err TooManyRows

-- the part of no rows at a table's end
abbrev pub part_at : {X : Type 0} → List X → RowRange
part_at xs = record { first = length xs; count = 0 }
