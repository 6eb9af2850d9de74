-- Where the bytes between two quotes stand for something, all that is complete is what they stand for. Assumes nothing.
use Rattle.std.proofs.Common.{◌≡◌, ℕ, ◌+◌, List, [], ◌∷◌, ◌++◌, length, length-append, Some, None, Option, refl, sym, ap, ◌∙◌, arith}
use Rattle.std.proofs.lemmas.Bool.Decides.{nat_tests}
use Rattle.std.specs.Option.{option_map, option_and_then, option_to_list}
use Rattle.words.specs.declared.quote.Place.{Place}
use Rattle.words.specs.declared.quote.Place.TheVariants.{Plain, Slash, High, Low}
use Rattle.words.specs.Quotes.{from_place, stepped, put, complete_from, complete, unquoted}

-- `n` is how many bytes of the rest are complete
put_on : (b : Option ℕ) (rest : Option (List ℕ)) (n : ℕ) (bs : List ℕ) → ((ds : List ℕ) → rest ≡ Some ds → n ≡ length ds) → option_map (put b) rest ≡ Some bs → length (option_to_list b) + n ≡ length bs
put_on b None n bs counted h = grind (arith, nat_tests)
put_on b (Some ds) n bs counted h =
    let k : n ≡ length ds = counted ds refl in
    let joined : length (option_to_list b ++ ds) ≡ length (option_to_list b) + length ds = length-append (option_to_list b) ds in
    grind (arith, nat_tests)

after : (s : Option (Place × Option ℕ)) (cs bs : List ℕ) → ((p : Place) (ds : List ℕ) → from_place p cs ≡ Some ds → complete_from p cs ≡ length ds) → option_and_then (λ s. option_map (put s.1) (from_place s.0 cs)) s ≡ Some bs → elim s [ None ↦ 0 | Some s ↦ length (option_to_list s.1) + complete_from s.0 cs ] ≡ length bs
after None cs bs whole h = grind (arith, nat_tests)
after (Some s) cs bs whole h = put_on s.1 (from_place s.0 cs) (complete_from s.0 cs) bs (whole s.0) h

whole_from : (p : Place) (cs bs : List ℕ) → from_place p cs ≡ Some bs → complete_from p cs ≡ length bs
whole_from Plain [] bs h = grind (arith, nat_tests)
whole_from Slash [] bs h = grind (arith, nat_tests)
whole_from High [] bs h = grind (arith, nat_tests)
whole_from (Low d) [] bs h = grind (arith, nat_tests)
whole_from p (c ∷ cs) bs h = after (stepped p c) cs bs (λ q ds k. whole_from q cs ds k) h

pub whole : (raw bs : List ℕ) → unquoted raw ≡ Some bs → complete raw ≡ length bs
whole raw bs h = whole_from Plain raw bs h
