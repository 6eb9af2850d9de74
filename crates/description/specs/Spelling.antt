-- Which words stand on a line. Assumes nothing.
use Rattle.std.specs.Prelude.{◌≡◌, ℕ, List, [], ◌∷◌}
use Rattle.words.specs.Lines.{Next, unquoted, quoted, nothing, next_of}
use Rattle.description.specs.Fields.{Token, plain_word, quoted_word}
use Rattle.description.specs.Reading.{line_row}

abbrev pub found : Token → List ℕ → Next
found (plain_word w) rest = unquoted w rest
found (quoted_word w) rest = quoted w rest

-- these words stand on the line, one after another, and no more
abbrev pub Spells : List Token → List ℕ → Type 0
Spells [] line = next_of line ≡ nothing
Spells (t ∷ ts) line = (rest : List ℕ) × (next_of line ≡ found t rest) × Spells ts rest

-- which row a line is hangs on its words alone, and not on blank space or comments
abbrev pub WordsDecide : Type 0
WordsDecide = (ts : List Token) (l m : List ℕ) → Spells ts l → Spells ts m → line_row l ≡ line_row m
