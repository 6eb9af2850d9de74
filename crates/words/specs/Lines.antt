-- The next word of a line. Assumes nothing.
use Rattle.std.specs.Prelude.{ℕ, ◌+◌, Bool, false, cond, not, ◌&&◌, ◌||◌, List, [], ◌∷◌, take, drop, Some, None, Ok, Err, Option, Result, ◌==◌}
use Rattle.std.specs.Borrow.{Bor}
use Rattle.std.specs.List.{prefix_len, take_while}
use Rattle.words.specs.declared.scan.OpenQuote.{OpenQuote}
use Rattle.words.specs.declared.scan.Word.{Word}
use Rattle.words.specs.declared.scan.Word.TheVariants.{Plain, Quoted}

-- a blank, a tab or a carriage return
abbrev pub blank : ℕ → Bool
blank c = c == 32 || (c == 9 || c == 13)

-- a byte of a plain word: not blank, and neither # nor "
abbrev pub plain : ℕ → Bool
plain c = not (blank c || (c == 35 || c == 34))

-- where the first " stands that is after no backslash, in a list that starts at place i; a backslash after a backslash is no such one
abbrev pub before_quote : ℕ → Bool → List ℕ → Option ℕ
before_quote i escaped [] = None
before_quote i escaped (c ∷ cs) = cond (not escaped && c == 34) (Some i) (before_quote (i + 1) (not escaped && c == 92) cs)

-- the next word and what stands after it; no word; or a quoted word that the line's end cuts off
pub data Next : Type 0 where
  unquoted : List ℕ → List ℕ → Next
  quoted : List ℕ → List ℕ → Next
  nothing : Next
  cut_off : Next

abbrev pub quoted_next : List ℕ → Option ℕ → Next
quoted_next cs None = cut_off
quoted_next cs (Some n) = quoted (take n cs) (drop (n + 1) cs)

abbrev pub plain_next : List ℕ → Next
plain_next cs = unquoted (take_while plain cs) (drop (prefix_len plain cs) cs)

-- with no blank space in front
abbrev pub first_next : List ℕ → Next
first_next [] = nothing
first_next (c ∷ cs) = cond (c == 35) nothing (cond (c == 34) (quoted_next cs (before_quote 0 false cs)) (plain_next (c ∷ cs)))

abbrev pub next_of : List ℕ → Next
next_of line = first_next (drop (prefix_len blank line) line)

-- what an answer says, given what stands after the word
abbrev pub said : Word → List ℕ → Next
said (Plain w) rest = unquoted w.now rest
said (Quoted w) rest = quoted w.now rest

abbrev pub told : Result (Option (Word × Bor (List ℕ))) OpenQuote → Next
told (Err e) = cut_off
told (Ok None) = nothing
told (Ok (Some p)) = said p.0 p.1.now

abbrev pub told_with : Result (Option Word) OpenQuote → List ℕ → Next
told_with (Err e) rest = cut_off
told_with (Ok None) rest = nothing
told_with (Ok (Some w)) rest = said w rest

-- what is left of a line
abbrev pub left_of : Next → List ℕ → List ℕ
left_of (unquoted w rest) line = rest
left_of (quoted w rest) line = rest
left_of nothing line = line
left_of cut_off line = line
