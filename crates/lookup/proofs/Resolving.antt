-- A list of answers, one more at a time. Assumes nothing.
use Rattle.std.proofs.Common.{◌≡◌, ℕ, suc, ◌+◌, ◌<◌, List, [], ◌∷◌, ◌++◌, map, length, get_or, take, drop, set, sym, ap, ◌∙◌, ap₂, append_assoc, arith}
use Rattle.std.proofs.lemmas.List.{take_at, drop_at, drop-drop, set_split, take_more, map_push, length-map, length-append, length-drop, length-take-le}

-- one answer more
pub map_more : {X Y : Type 0} (f : X → Y) (xs : List X) (old rows : List Y) (k : ℕ) (d : X) (y : Y) → k < length xs → k < length old → y ≡ f (get_or xs k d) → rows ≡ map f (take k xs) ++ drop k old → set rows k y ≡ map f (take (k + 1) xs) ++ drop (k + 1) old
map_more f xs old rows k d y l m e h =
    let front : length (map f (take k xs)) ≡ k = length-map (take k xs) f ∙ length-take-le k xs (omega arith) in
    let long : length rows ≡ length old = ap length h ∙ length-append (map f (take k xs)) (drop k old) ∙ (let a = length-drop k old in omega arith) in
    let one : k + 1 ≡ suc k = omega arith in
    let kept : drop (suc k) rows ≡ drop (k + 1) old = ap (drop (suc k)) h ∙ ap (λ n. drop n (map f (take k xs) ++ drop k old)) (sym one) ∙ sym (drop-drop 1 k (map f (take k xs) ++ drop k old)) ∙ ap (drop 1) (drop_at (map f (take k xs)) (drop k old) k front) ∙ drop-drop 1 k old in
    set_split rows k y (omega arith) ∙
    ap₂ (λ us vs. us ++ y ∷ vs) (ap (take k) h ∙ take_at (map f (take k xs)) (drop k old) k front) kept ∙
    ap (λ z. map f (take k xs) ++ z ∷ drop (k + 1) old) e ∙
    sym (append_assoc (map f (take k xs)) (f (get_or xs k d) ∷ []) (drop (k + 1) old)) ∙
    ap (λ us. us ++ drop (k + 1) old) (sym (map_push f (take k xs) (get_or xs k d)) ∙ ap (map f) (sym (take_more xs k d l)))
