-- What the bytes between two quotes stand for. Assumes nothing.
use Rattle.std.specs.Prelude.{◌≡◌, ℕ, ◌+◌, ◌*◌, ◌<◌, cond, List, [], ◌∷◌, ◌++◌, length, take, Some, None, Ok, Err, Option, Result, ◌==◌}
use Rattle.std.specs.Option.{option_map, option_and_then, option_to_list}
use Rattle.std.specs.Char.{is_digit, digit_value}
use Rattle.words.specs.declared.quote.Place.{Place}
use Rattle.words.specs.declared.quote.Place.TheVariants.{Plain, Slash, High, Low}
use Rattle.words.specs.declared.quote.QuoteError.{QuoteError}
use Rattle.words.specs.declared.quote.QuoteError.TheVariants.{BadEscape, NoMemory}

-- the byte that is written as a backslash and c
abbrev pub named : ℕ → Option ℕ
named c = cond (c == 34) (Some 34) (cond (c == 92) (Some 92) (cond (c == 110) (Some 10) (cond (c == 116) (Some 9) (cond (c == 114) (Some 13) None))))

abbrev pub hex_digit : ℕ → Option ℕ
hex_digit c = cond (is_digit c 16) (Some (digit_value c)) None

-- what c does at a place: the place of the next byte, and the byte that is now complete
abbrev pub stepped : Place → ℕ → Option (Place × Option ℕ)
stepped Plain c = cond (c == 92) (Some (Slash, None)) (Some (Plain, Some c))
stepped Slash c = cond (c == 120) (Some (High, None)) (option_map (λ b. (Plain, Some b)) (named c))
stepped High c = option_map (λ d. (Low d, None)) (hex_digit c)
stepped (Low h) c = option_map (λ d. (Plain, Some (16 * h + d))) (hex_digit c)

abbrev pub put : Option ℕ → List ℕ → List ℕ
put b bs = option_to_list b ++ bs

abbrev pub finished : Place → Option (List ℕ)
finished Plain = Some []
finished p = None

-- what bytes stand for, the first of them at a place
abbrev pub from_place : Place → List ℕ → Option (List ℕ)
from_place p [] = finished p
from_place p (c ∷ cs) = option_and_then (λ s. option_map (put s.1) (from_place s.0 cs)) (stepped p c)

abbrev pub unquoted : List ℕ → Option (List ℕ)
unquoted bs = from_place Plain bs

-- how many bytes are complete at the end, or where bytes stand for nothing
abbrev pub complete_from : Place → List ℕ → ℕ
complete_from p [] = 0
complete_from p (c ∷ cs) = elim (stepped p c) [ None ↦ 0 | Some s ↦ length (option_to_list s.1) + complete_from s.0 cs ]

abbrev pub complete : List ℕ → ℕ
complete bs = complete_from Plain bs

abbrev pub Sound : Place → Type 0
Sound (Low h) = h < 16
Sound p = Unit {0}

-- what is appended to `old`: all that the bytes stand for, or nothing
abbrev pub Unquotes : List ℕ → List ℕ → List ℕ → Result Unit QuoteError → Type 0
Unquotes raw old new (Ok _) = (bs : List ℕ) × (unquoted raw ≡ Some bs) × (new ≡ old ++ bs)
Unquotes raw old new (Err BadEscape) = (unquoted raw ≡ None) × (new ≡ old)
Unquotes raw old new (Err NoMemory) = new ≡ old

-- memory runs out only where there is no place for a byte that is complete
abbrev pub Overflows : List ℕ → ℕ → ℕ → Result Unit QuoteError → Type 0
Overflows raw len capacity (Err NoMemory) = capacity < len + complete raw
Overflows raw len capacity r = Unit {0}

-- the same, but for what has been appended where it fails
abbrev pub Appends : List ℕ → List ℕ → List ℕ → Result Unit QuoteError → Type 0
Appends raw old new (Ok _) = (bs : List ℕ) × (unquoted raw ≡ Some bs) × (new ≡ old ++ bs)
Appends raw old new (Err BadEscape) = (unquoted raw ≡ None) × (take (length old) new ≡ old)
Appends raw old new (Err NoMemory) = take (length old) new ≡ old
