-- The sites that are open, as the first rows of an array. Assumes nothing.
use Rattle.std.proofs.Common.{◌≡◌, ℕ, ◌+◌, ◌<◌, ◌≤◌, List, [], ◌∷◌, length, take, set, get_or, reverse, None, Ok, Err, Result, refl, ap, ◌∙◌}
use Rattle.std.proofs.lemmas.Bool.{lt-leb}
use Rattle.std.proofs.lemmas.List.{take_more, take_more_set, reverse-append, length-reverse, length-take-le}
use Rattle.base.specs.declared.refusal.Refusal.{Refusal}
use Rattle.frames.specs.declared.range.InlineRange.{InlineRange}
use Rattle.frames.specs.declared.range.OpenSite.{OpenSite}
use Rattle.inlining.specs.Steps.{then as and_then, leaves}
use Rattle.inlining.specs.Sites.{Site}
use Rattle.inlining.specs.Ranges.{Walked, most_open, fitting, completed, opened, closed}

module _ (sites : List OpenSite) (n : ℕ) where
  pub open_count : n ≤ length sites → length (reverse (take n sites)) ≡ n
  open_count l = length-reverse (take n sites) ∙ length-take-le n sites l

  -- the innermost one is the last
  pub open_last : (d : OpenSite) → n < length sites → reverse (take (n + 1) sites) ≡ get_or sites n d ∷ reverse (take n sites)
  open_last d l = ap reverse (take_more sites n d l) ∙ reverse-append (take n sites) (get_or sites n d ∷ [])

  pub open_more : (s : OpenSite) → n < length sites → reverse (take (n + 1) (set sites n s)) ≡ s ∷ reverse (take n sites)
  open_more s l = ap reverse (take_more_set sites n s l) ∙ reverse-append (take n sites) (s ∷ [])

-- a site opens that has no rows
pub opened_bare : (m : ℕ) (s : Site) (w : Walked) (top : OpenSite) → length w.sites < most_open → top ≡ record { inlinee = s.inlinee; end = s.end; file = None; from = length w.ranges } → Ok (record { sites = top ∷ w.sites; ranges = w.ranges }) ≡ opened m (λ _. []) s w
opened_bare m s w top l e = let few = lt-leb most_open (length w.sites) l in rw (e, few) refl

-- the innermost site closes
pub closed_last : {U : Type 0} (m : ℕ) (w : Walked) (s : OpenSite) (sites : List OpenSite) (q : Result U Refusal) (rs : List InlineRange) → w.sites ≡ s ∷ sites → leaves q rs ≡ fitting m (completed (length sites) s w.ranges) → leaves {X = Walked} q (record { sites = sites; ranges = rs }) ≡ closed m w
closed_last m w s sites q rs e h = rw (e, ← h) (go q)
  where
    go : {U : Type 0} (q : Result U Refusal) → leaves {X = Walked} q (record { sites = sites; ranges = rs }) ≡ and_then (leaves q rs) (λ after. Ok (record { sites = sites; ranges = after }))
    go (Ok u) = refl
    go (Err f) = refl
