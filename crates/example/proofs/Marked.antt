-- What the rules give for the example image, by computing. Assumes nothing.
use Rattle.std.proofs.Common.{◌≡◌, ℕ, zero, suc, ◌<◌, ◌≤◌, ◌^◌, Bool, true, false, length, arith, cond, List, [], ◌∷◌, ◌++◌, Some, None, fold, refl, ap, subst, sym, append-nil, append_assoc}
use Rattle.std.specs.Prelude.{nat_lt, slice_index_or, ◌==◌}
use Rattle.order.specs.Rank.{same}
use Rattle.base.specs.declared.image.PublicSymbol.{PublicSymbol}
use Rattle.image.specs.Image.{Lawful, PartOf}
use Rattle.provider.specs.declared.symbols.SiteRow.{SiteRow}
use Rattle.provider.specs.Modules.{Regular, RegularModule, absent, content}
use Rattle.order.specs.Placed.{placed}
use Rattle.base.specs.Rows.{offset_rank, start_rank, start_meets, contribution_rank, contribution_meets}
use Rattle.base.specs.declared.context.KnownStart.{KnownStart}
use Rattle.base.specs.declared.context.Contribution.{Contribution}
use Rattle.base.specs.declared.refusal.Refusal.TheVariants.{ContributionOutside}
use Rattle.building.specs.Starts.{Known}
use Rattle.building.specs.Blocks.{blocks, Stands}
use Rattle.building.specs.Outcome.{all_starts, all_kept, top}
use Rattle.building.proofs.Starts.{known-none, known_more}
use Rattle.building.proofs.Filling.{stands-none, stands-more}
use Rattle.example.specs.Image.{image, modules, first_module, site_rows, place, at}
use Rattle.example.specs.Marked.{Marked}

-- starts that come to known ones, each put in its place
abbrev with_starts : List KnownStart → List KnownStart → List KnownStart
with_starts xs ds = fold (λ ys d. placed start_rank start_meets d ys) xs ds

known_with : (cs ds xs : List KnownStart) → Known cs xs → Known (cs ++ ds) (with_starts xs ds)
known_with cs [] xs h = subst (λ l. Known l xs) (sym (append-nil cs)) h
known_with cs (d ∷ ds) xs h =
    let ys : List KnownStart = placed start_rank start_meets d xs in
    subst (λ l. Known l (with_starts ys ds)) (append_assoc cs (d ∷ []) ds) (known_with (cs ++ d ∷ []) ds ys (known_more cs xs d h))

-- blocks, each put in its place
abbrev sorted : List Contribution → List Contribution
sorted [] = []
sorted (b ∷ bs) = placed contribution_rank contribution_meets b (sorted bs)

stands-sorted : (bs : List Contribution) → Stands bs (sorted bs)
stands-sorted [] = stands-none
stands-sorted (b ∷ bs) = stands-more bs (sorted bs) b (stands-sorted bs)

lawful : Lawful image
lawful = record {
  few_sections = omega arith;
  few_symbols = omega arith;
  few_contributions = omega arith;
  names = names;
}
  where
    names : (k : ℕ) (d : PublicSymbol) → k < 2 → PartOf image.text (slice_index_or image.symbols k d).name
    names zero d l = omega arith
    names (suc zero) d l = omega arith
    names (suc (suc k)) d l = absurd (omega arith)

few : (b : Bool) (xs ys : List SiteRow) → length xs < 2 ^ 32 → length ys < 2 ^ 32 → length (cond b xs ys) < 2 ^ 32
few true xs ys l m = l
few false xs ys l m = m

few_rows : (site : ℕ) → length (site_rows site) < 2 ^ 32
few_rows site = few (site == 40) _ _ (omega arith) (few (site == 60) _ _ (omega arith) (omega arith))

marked_module : RegularModule first_module
marked_module = record {
  rises = refl;
  few_symbols = omega arith;
  few_site_rows = λ site start. few (same (offset_rank start) (offset_rank (place 1 16))) (site_rows site) [] (few_rows site) (omega arith);
  few_line_rows = λ start. omega arith;
}

regular : Regular modules
regular = record {
  few = omega arith;
  past = past;
  each = each;
}
  where
    past : (k : ℕ) → 2 ≤ k → at k ≡ absent
    past zero l = absurd (omega arith)
    past (suc k) l = refl

    each : (k : ℕ) → RegularModule (content (at k))
    each zero = marked_module
    each (suc k) = record { rises = refl; few_symbols = omega arith; few_site_rows = λ site start. omega arith; few_line_rows = λ start. omega arith }

pub marked : Marked
marked = record {
  lawful = lawful;
  regular = regular;
  builds = (refl, refl, known_with [] (all_starts image) [] known-none, stands-sorted (blocks (all_kept image)));
  no_start = refl;
  procedure_first = refl;
  procedure_last = refl;
  past_procedure = refl;
  separated = refl;
  absent_first = refl;
  absent_last = refl;
  past_contributions = refl;
  outer_call = λ x y z. (refl, refl);
  inner_call = λ x y z. (refl, refl);
  no_call = λ x y z. (refl, refl);
  short_table = λ x y. (refl, refl);
  listed = λ v w x y z. (refl, refl);
  full_table = λ w x y z. (refl, refl);
  at_top = λ k c e. ap (λ n. cond (nat_lt top n) (Some (ContributionOutside k)) None) e;
}
