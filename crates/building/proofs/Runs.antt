-- Blocks are the longest runs. Assumes nothing.
use Rattle.std.proofs.Common.{◌≡◌, true, false, ◌&&◌, eqb, List, [], ◌∷◌, ◌++◌, map, reverse, fold, sym, refl, ap, ◌∙◌, subst, ⊎_elim, append_assoc, append-nil}
use Rattle.std.specs.List.{flat_map, AllByRecursion}
use Rattle.std.proofs.ByRecursion.{All-weaker}
use Rattle.std.proofs.lemmas.List.{reverse-append}
use Rattle.std.proofs.lemmas.Bool.{cases_Bool, cond-true, cond-false, and_parts, eqb-true}
use Rattle.base.specs.declared.image.SectionContribution.{SectionContribution}
use Rattle.building.specs.Blocks.{more, end_of}
use Rattle.building.specs.Runs.{alike, Run, Longest, oldest, span, BlocksAreRuns}

abbrev Id : List SectionContribution → List SectionContribution
Id r = r

record Good (rs : List (List SectionContribution)) : Type 0 where
  runs : AllByRecursion Run rs
  longest : Longest rs

-- what one contribution more makes of the runs
record Next (rs : List (List SectionContribution)) (c : SectionContribution) : Type 0 where
  after : List (List SectionContribution)
  good : Good after
  whole : flat_map Id after ≡ c ∷ flat_map Id rs
  spans : more (map span rs) c ≡ map span after

same_parts : (x c : SectionContribution) → alike x c ≡ true → (x.offset.section ≡ c.offset.section) × (x.«module» ≡ c.«module»)
same_parts x c h = let p = and_parts _ _ h in (eqb-true x.offset.section c.offset.section p.0, eqb-true x.«module» c.«module» p.1)

-- alike is an equation of the two numbers
alike_through : (d x c : SectionContribution) → alike x c ≡ true → alike d x ≡ true → alike d c ≡ true
alike_through d x c h k =
    let p = same_parts x c h in
    subst (λ s. (eqb d.offset.section s && eqb d.«module» c.«module») ≡ true) p.0
    (subst (λ m. (eqb d.offset.section x.offset.section && eqb d.«module» m) ≡ true) p.1 k)

longest_head : (x : SectionContribution) (r : List SectionContribution) (c : SectionContribution) (rs : List (List SectionContribution)) → alike x c ≡ true → Longest ((x ∷ r) ∷ rs) → Longest ((c ∷ x ∷ r) ∷ rs)
longest_head x r c [] h l = tt
longest_head x r c ([] ∷ rs) h l = absurd l.0
longest_head x r c ((d ∷ ds) ∷ rs) h l =
    let p = same_parts x c h in (
      subst (λ s. (eqb d.offset.section s && eqb d.«module» c.«module») ≡ false) p.0
          (subst (λ m. (eqb d.offset.section x.offset.section && eqb d.«module» m) ≡ false) p.1 l.0),
      l.1,
    )

next : (rs : List (List SectionContribution)) (c : SectionContribution) → Good rs → Next rs c
next [] c g = record { after = (c ∷ []) ∷ []; good = record { runs = (tt, tt); longest = tt }; whole = refl; spans = refl }
next ([] ∷ rs) c g = absurd g.runs.0
next ((x ∷ r) ∷ rs) c g =
    ⊎_elim
    (λ h. record {
      after = (c ∷ x ∷ r) ∷ rs;
      good = record { runs = ((h, All-weaker (λ d. alike d x ≡ true) (λ d. alike d c ≡ true) (λ d k. alike_through d x c h k) r g.runs.0), g.runs.1); longest = longest_head x r c rs h g.longest };
      whole = refl;
      spans = cond-true _ _ _ h ∙ (let p = same_parts x c h in λ j. record { section = p.0 j; start = (oldest x r).offset.offset; end = end_of c; «module» = p.1 j } ∷ map span rs);
    })
    (λ h. record {
      after = (c ∷ []) ∷ (x ∷ r) ∷ rs;
      good = record { runs = (tt, g.runs); longest = (h, g.longest) };
      whole = refl;
      spans = cond-false _ _ _ h;
    })
    (cases_Bool (alike x c))

all_runs : (cs : List SectionContribution) (rs : List (List SectionContribution)) → Good rs → (ss : List (List SectionContribution)) × (flat_map Id ss ≡ reverse cs ++ flat_map Id rs) × Good ss × (fold more (map span rs) cs ≡ map span ss)
all_runs [] rs g = (rs, refl, g, refl)
all_runs (c ∷ cs) rs g =
    let n = next rs c g in
    let r = all_runs cs n.after n.good in (
      r.0,
      r.1 ∙ ap (λ l. reverse cs ++ l) n.whole ∙ sym (append_assoc (reverse cs) (c ∷ []) (flat_map Id rs)) ∙ ap (λ l. l ++ flat_map Id rs) (sym (reverse-append (c ∷ []) cs)),
      r.2,
      ap (λ bs. fold more bs cs) n.spans ∙ r.3,
    )

pub blocks_are_runs : (cs : List SectionContribution) → BlocksAreRuns cs
blocks_are_runs cs =
    let r = all_runs cs [] (record { runs = tt; longest = tt }) in
    (r.0, r.1 ∙ append-nil (reverse cs), r.2.runs, r.2.longest, r.3)
