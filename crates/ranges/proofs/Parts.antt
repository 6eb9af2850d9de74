-- A part of a slice, or nothing. Assumes nothing.
use Rattle.std.proofs.Common.{◌≡◌, ℕ, ◌+◌, ◌-◌, ◌<◌, ◌≤◌, List, [], length, take, drop, Some, None, Option, sym, ap, ◌∙◌, ◌⊎◌, ⊎_elim, arith}
use denote.Ref.{Bor}
use Rattle.std.specs.List.{slice_range}
use Rattle.std.specs.Option.{MatchOption, unwrap_or}
use Rattle.std.proofs.lemmas.List.{drop-take, drop_all, length-take}

module _ {X : Type 0} (xs : List X) (from upto : ℕ) (within : upto ≤ length xs) where
  range_part : from ≤ upto → slice_range xs from upto ≡ drop from (take upto xs)
  range_part l = sym (drop-take from (upto - from) xs) ∙ (let e : from + (upto - from) ≡ upto = omega arith in ap (λ n. drop from (take n xs)) e)

  no_part : upto < from → [] ≡ drop from (take upto xs)
  no_part l = sym (drop_all from (take upto xs) (omega (arith, length-take upto xs)))

  pub part : {P : Type 0} (o : Option (Bor (List X))) (other : Bor (List X)) → other.now ≡ [] → MatchOption o ((upto < from) ⊎ (length xs < upto)) (λ x. (from ≤ upto) × (upto ≤ length xs) × (x.now ≡ slice_range xs from upto) × (length x.now + from ≡ upto)) × P → (unwrap_or o other).now ≡ drop from (take upto xs)
  part None other e h = e ∙ no_part (⊎_elim (λ l. l) (λ l. absurd (omega arith)) h.0)
  part (Some x) other e h = h.0.2 ∙ range_part h.0.0
