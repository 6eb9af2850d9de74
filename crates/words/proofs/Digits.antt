-- A value that is kept at the limit reads on as the value itself. Assumes nothing.
use Rattle.std.proofs.Common.{◌≡◌, ℕ, ◌+◌, ◌*◌, ◌^◌, ◌<◌, ◌≤◌, min, List, [], ◌∷◌, length, get_or, drop, sym, ap, ◌∙◌, le-mul_of_pos_right, arith}
use Rattle.std.proofs.lemmas.Bool.Decides.{nat_tests}
use Rattle.std.proofs.lemmas.List.{at_drop_more}
use Rattle.std.specs.Str.Parse.{digits_value_after}
use Rattle.std.specs.Char.{digit_value}
use Rattle.words.specs.Numbers.{read_on}

grows : (base v : ℕ) (cs : List ℕ) → 0 < base → v ≤ digits_value_after base v cs
grows base v [] h = omega arith
grows base v (c ∷ cs) h =
    let ih = grows base (v * base + digit_value c) cs h in
    omega (arith, le-mul_of_pos_right {m = base} v h)

capped : (base v : ℕ) (cs : List ℕ) → 0 < base → read_on base (min v (2 ^ 32)) cs ≡ read_on base v cs
capped base v cs h = grind (arith, nat_tests, grows base v cs h, grows base (min v (2 ^ 32)) cs h)

pub one_more : (base v w d i : ℕ) (cs : List ℕ) → i < length cs → 0 < base → d ≡ digit_value (get_or cs i 0) → d < base → w ≡ min (v * base + d) (2 ^ 32) → read_on base w (drop (i + 1) cs) ≡ read_on base v (drop i cs)
one_more base v w d i cs h pos digit small kept =
    let rest = drop (i + 1) cs in
    let step : read_on base (v * base + d) rest ≡ read_on base v (get_or cs i 0 ∷ rest) = grind (arith, nat_tests) in
    ap (λ n. read_on base n rest) kept ∙ capped base (v * base + d) rest pos ∙ step ∙ sym (at_drop_more (read_on base v) cs i 0 h)
