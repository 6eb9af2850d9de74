-- A byte that finds no place is one of those that are to be appended. Assumes nothing.
use Rattle.std.proofs.Common.{◌≡◌, ℕ, ◌+◌, ◌<◌, ◌≤◌, List, ◌++◌, length, get_or, drop, ap, sym, ◌∙◌, length-append, arith}
use Rattle.std.proofs.lemmas.List.{at_drop_more}
use Rattle.printing.specs.Escaped.{written, escaped}

one_of : (bs : List ℕ) (i : ℕ) → i < length bs → length (escaped (drop i bs)) ≡ length (written (get_or bs i 0)) + length (escaped (drop (i + 1) bs))
one_of bs i h = at_drop_more (λ cs. length (escaped cs)) bs i 0 h ∙ length-append (written (get_or bs i 0)) (escaped (drop (i + 1) bs))

pub no_room : (bs out start : List ℕ) (i c d : ℕ) → i < length bs → out ++ escaped (drop i bs) ≡ start ++ escaped bs → c ≤ d → d < length out + length (written (get_or bs i 0)) → c < length start + length (escaped bs)
no_room bs out start i c d h e k f =
    let whole = sym (length-append out (escaped (drop i bs))) ∙ ap length e ∙ length-append start (escaped bs) in
    let one = one_of bs i h in
    omega arith
