-- What is written within quotes is read again. Assumes nothing.
use Rattle.std.proofs.Common.{◌≡◌, ℕ, suc, ◌/◌, ◌%◌, ◌<◌, w8, Fits, List, [], ◌∷◌, ◌++◌, get_or, Some, None, Option, refl, ap, ◌∙◌, arith}
use Rattle.std.proofs.lemmas.Bool.Decides.{nat_tests}
use Rattle.std.specs.Option.{option_map}
use Rattle.std.specs.Char.{digit_char}
use Rattle.words.specs.declared.quote.Place.TheVariants.{Plain}
use Rattle.words.specs.Quotes.{hex_digit, put, from_place, unquoted}
use Rattle.printing.specs.Escaped.{hex_written, written, escaped}

digit_again : (d : ℕ) → d < 16 → hex_digit (digit_char d) ≡ Some d
digit_again d h = grind (arith, nat_tests)

put-none : (o : Option (List ℕ)) → option_map (put None) o ≡ o
put-none None = refl
put-none (Some bs) = refl

-- a byte in front of what is read
abbrev then-read : ℕ → List ℕ → Option (List ℕ)
then-read b rest = option_map (put (Some b)) (from_place Plain rest)

hex_again : (b : ℕ) (rest : List ℕ) → b < 256 → from_place Plain (hex_written b ++ rest) ≡ then-read b rest
hex_again b rest small =
    let high = digit_again (b / 16) (omega arith) in
    let low = digit_again (b % 16) (omega arith) in
    grind (arith, put-none)

byte_again : (b : ℕ) (rest : List ℕ) → b < 256 → from_place Plain (written b ++ rest) ≡ then-read b rest
byte_again b rest small = let e = hex_again b rest small in grind (arith, nat_tests, put-none)

pub read_again : (bs : List ℕ) → ((i : ℕ) → Fits w8 (get_or bs i 0)) → unquoted (escaped bs) ≡ Some bs
read_again [] fit = refl
read_again (b ∷ bs) fit = let h = fit 0 in byte_again b (escaped bs) (omega arith) ∙ ap (option_map (put (Some b))) (read_again bs (λ i. fit (suc i)))
