-- How bytes are written within quotes. Assumes nothing.
use Rattle.std.specs.Prelude.{ℕ, ◌/◌, ◌%◌, cond, List, [], ◌∷◌, ◌==◌}
use Rattle.std.specs.Int.{is_in_range}
use Rattle.std.specs.Char.{digit_char}
use Rattle.std.specs.List.{flat_map}

abbrev pub hex_written : ℕ → List ℕ
hex_written b = 92 ∷ 120 ∷ digit_char (b / 16) ∷ digit_char (b % 16) ∷ []

abbrev pub written : ℕ → List ℕ
written b =
    cond (b == 34) (92 ∷ 34 ∷ []) (cond (b == 92) (92 ∷ 92 ∷ []) (cond (is_in_range 32 126 b) (b ∷ []) (hex_written b)))

abbrev pub escaped : List ℕ → List ℕ
escaped bs = flat_map written bs
