-- How far the calls at a place were found. Assumes nothing.
use Rattle.std.proofs.Common.{◌≡◌, ℕ, suc, ◌+◌, ◌-◌, ◌<◌, List, [], ◌∷◌, ◌++◌, Some, None, sym, ap, ◌∙◌, append_assoc, arith}
use Rattle.std.proofs.lemmas.List.{append-nil}
use Rattle.frames.specs.declared.range.InlineRange.{InlineRange}
use Rattle.inlining.specs.Ranges.{inlined, inlined_from}

-- the calls at the depths below some one were found
pub record Upto (n place : ℕ) (rs : List InlineRange) (depth : ℕ) (calls : List InlineRange) : Type 0 where
  pub rest : (k : ℕ) → k + depth ≡ n → inlined_from n 0 place rs ≡ calls ++ inlined_from k depth place rs

from_same : (k n depth place : ℕ) (rs : List InlineRange) → k ≡ n → inlined_from n depth place rs ≡ inlined_from k depth place rs
from_same k n depth place rs e = ap (λ m. inlined_from m depth place rs) (sym e)

pub upto_none : (n place : ℕ) (rs : List InlineRange) → Upto n place rs 0 []
upto_none n place rs = record { rest = λ k e. from_same k n 0 place rs (omega arith) }

module _ {n place : ℕ} {rs : List InlineRange} {depth : ℕ} {calls : List InlineRange} (u : Upto n place rs depth calls) where
  pub upto_more : (r : InlineRange) → inlined depth place rs ≡ Some r → Upto n place rs (depth + 1) (calls ++ r ∷ [])
  upto_more r found = record { rest = λ k e. u.rest (suc k) (omega arith) ∙ rw (inlined_from, found) (sym (append_assoc calls (r ∷ []) (inlined_from k (depth + 1) place rs))) }

  pub upto_stop : depth < n → inlined depth place rs ≡ None → calls ≡ inlined_from n 0 place rs
  upto_stop l none =
      let k = n - suc depth in
      let e : suc k + depth ≡ n = omega arith in
      sym (u.rest (suc k) e ∙ rw (inlined_from, none) (append-nil calls))

  pub upto_full : depth ≡ n → calls ≡ inlined_from n 0 place rs
  upto_full e = sym (u.rest 0 (omega arith) ∙ append-nil calls)
