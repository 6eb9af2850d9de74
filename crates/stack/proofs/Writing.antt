-- A table once the frames are written. Assumes nothing.
use Rattle.std.proofs.Common.{◌≡◌, ℕ, suc, ◌+◌, ◌<◌, List, [], ◌∷◌, ◌++◌, map, reverse, length, take, drop, set, sym, refl, ap, ap₂, ◌∙◌, append_assoc, arith}
use Rattle.std.proofs.lemmas.List.{take_all, take_at, drop_at, drop-drop, set_split, map-append, reverse-append, length-map, length-append, length-drop, length-reverse}

map_reverse : {X Y : Type 0} (f : X → Y) (xs : List X) → map f (reverse xs) ≡ reverse (map f xs)
map_reverse f [] = refl
map_reverse f (x ∷ xs) =
    ap (map f) (reverse-append (x ∷ []) xs) ∙ map-append f (reverse xs) (x ∷ []) ∙ ap (λ ys. ys ++ f x ∷ []) (map_reverse f xs) ∙ sym (reverse-append (f x ∷ []) (map f xs))

-- one row more, after as many as there are
pub one_more : {Y : Type 0} (front old rows : List Y) (y : Y) → length front < length old → rows ≡ front ++ drop (length front) old → set rows (length front) y ≡ (front ++ y ∷ []) ++ drop (length (front ++ y ∷ [])) old
one_more front old rows y l h =
    let n = length front in
    let long : length rows ≡ length old = ap length h ∙ length-append front (drop n old) ∙ (let a = length-drop n old in omega arith) in
    let rest : drop (suc n) rows ≡ drop (length (front ++ y ∷ [])) old =
    ap (drop (suc n)) h ∙
    ap (λ m. drop m (front ++ drop n old)) (let e : suc n ≡ n + 1 = omega arith in e) ∙
    sym (drop-drop 1 n (front ++ drop n old)) ∙ ap (drop 1) (drop_at front (drop n old) n refl) ∙ drop-drop 1 n old ∙
    ap (λ m. drop m old) (sym (length-append front (y ∷ []))) in
    set_split rows n y (omega arith) ∙
    ap₂ (λ us vs. us ++ y ∷ vs) (ap (take n) h ∙ take_at front (drop n old) n refl) rest ∙
    sym (append_assoc front (y ∷ []) (drop (length (front ++ y ∷ [])) old))

-- the frames of all calls are written, the innermost first, and then the function's
pub all_written : {X Y : Type 0} (f : X → Y) (calls : List X) (old rows : List Y) (g : Y) (n : ℕ) → n ≡ length calls → n < length old → rows ≡ map f (take n (reverse calls)) ++ drop n old → set rows n g ≡ (reverse (map f calls) ++ g ∷ []) ++ drop (length (reverse (map f calls) ++ g ∷ [])) old
all_written f calls old rows g n e l h =
    let front = reverse (map f calls) in
    let long : length front ≡ n = length-reverse (map f calls) ∙ length-map calls f ∙ sym e in
    let whole : take n (reverse calls) ≡ reverse calls = take_all n (reverse calls) (let a = length-reverse calls in omega arith) in
    let rows_are : rows ≡ front ++ drop (length front) old = h ∙ ap₂ (λ us m. us ++ drop m old) (ap (map f) whole ∙ map_reverse f calls) (sym long) in
    ap (λ m. set rows m g) (sym long) ∙ one_more front old rows g (omega arith) rows_are
