-- What hiding modules means. Assumes nothing.
use Rattle.std.specs.Prelude.{◌≡◌, ℕ, Bool, true, false, cond, not, List, [], ◌∷◌, ◌++◌, length, Some, None, Option, ◌==◌, nat_lt, refl}
use Rattle.std.specs.List.{list_any}
use Rattle.std.specs.Option.{option_and_then}
use Rattle.order.specs.Rank.{pairwise}
use Rattle.provider.specs.Modules.{Content, Modules, Regular, RegularModule, absent, content}
use Rattle.provider.proofs.Regular.{nothing_regular}

-- whether a number is among the numbers
abbrev pub among : List ℕ → ℕ → Bool
among numbers n = list_any (λ m. m == n) numbers

-- the modules, with those of some numbers absent
abbrev pub hide : List ℕ → Modules → Modules
hide numbers ms = record {
  count = ms.count;
  at = λ k. cond (among numbers k) absent (ms.at k);
}

-- no number stands twice
abbrev pub apart : List ℕ → Bool
apart numbers = pairwise (λ a b. not (a == b)) numbers

abbrev pub most : ℕ
most = 64

-- the numbers with one more; none where that would be one too many
abbrev pub with : List ℕ → ℕ → Option (List ℕ)
with numbers n = cond (among numbers n) (Some numbers) (cond (nat_lt (length numbers) most) (Some (numbers ++ n ∷ [])) None)

-- the same for several numbers, one after another
abbrev pub with_each : List ℕ → List ℕ → Option (List ℕ)
with_each [] numbers = Some numbers
with_each (n ∷ ns) numbers = option_and_then (with_each ns) (with numbers n)

at_regular : (b : Bool) (c : Content) → RegularModule (content c) → RegularModule (content (cond b absent c))
at_regular true c h = nothing_regular
at_regular false c h = h

past_absent : (b : Bool) (c : Content) → c ≡ absent → cond b absent c ≡ absent
past_absent true c h = refl
past_absent false c h = h

pub hide_regular : (numbers : List ℕ) (ms : Modules) → Regular ms → Regular (hide numbers ms)
hide_regular numbers ms h = record {
  few = h.few;
  past = λ k l. past_absent (among numbers k) (ms.at k) (h.past k l);
  each = λ k. at_regular (among numbers k) (ms.at k) (h.each k);
}
