-- What number a word writes. Assumes nothing.
use Rattle.std.specs.Prelude.{ℕ, ◌^◌, Bool, cond, ◌&&◌, List, length, drop, Ok, Err, Result, ◌==◌, nat_lt, slice_index}
use Rattle.std.specs.List.{list_all}
use Rattle.std.specs.Str.Parse.{digits_value_after}
use Rattle.std.specs.Char.{is_digit}
use Rattle.words.specs.declared.number.NotNumber.{NotNumber}
use Rattle.words.specs.declared.number.NotNumber.TheVariants.{NotDigits, TooLarge}

abbrev pub all_digits : ℕ → List ℕ → Bool
all_digits base cs = list_all (λ c. is_digit c base) cs

abbrev pub in_32_bits : ℕ → Result ℕ NotNumber
in_32_bits n = cond (nat_lt n (2 ^ 32)) (Ok n) (Err TooLarge)

-- what digits write after others that write `value`; each is worth `base` times the next
abbrev pub read_on : ℕ → ℕ → List ℕ → Result ℕ NotNumber
read_on base value cs = cond (all_digits base cs) (in_32_bits (digits_value_after base value cs)) (Err NotDigits)

-- one digit or more, and nothing else
abbrev pub numeral : ℕ → List ℕ → Result ℕ NotNumber
numeral base cs = cond (length cs == 0) (Err NotDigits) (read_on base 0 cs)

-- hexadecimal after 0x, and else decimal
abbrev pub number_of : List ℕ → Result ℕ NotNumber
number_of word = cond (slice_index word 0 == 48 && slice_index word 1 == 120) (numeral 16 (drop 2 word)) (numeral 10 word)
