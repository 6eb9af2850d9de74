-- What becomes of an image's contributions. Assumes nothing.
use Rattle.std.specs.Prelude.{◌≡◌, ℕ, ◌+◌, Bool, cond, ◌&&◌, ◌||◌, List, [], ◌∷◌, Some, None, fold, Option, ◌==◌, nat_le, nat_lt}
use Rattle.order.specs.Rank.{InOrder, tally}
use Rattle.base.specs.Rows.{contribution_rank}
use Rattle.base.specs.declared.image.SectionContribution.{SectionContribution}
use Rattle.base.specs.declared.context.Contribution.{Contribution}
use Rattle.base.specs.declared.refusal.Refusal.{Refusal}
use Rattle.base.specs.declared.refusal.Refusal.TheVariants.{Overlapping}

abbrev pub end_of : SectionContribution → ℕ
end_of c = c.offset.offset + c.size

abbrev pub block : SectionContribution → Contribution
block c = record { section = c.offset.section; start = c.offset.offset; end = end_of c; «module» = c.«module» }

-- c goes on with the block b: it is of the same section and module
abbrev pub joins : Contribution → SectionContribution → Bool
joins b c = b.section == c.offset.section && b.«module» == c.«module»

abbrev pub grown : Contribution → SectionContribution → Contribution
grown b c = record { section = b.section; start = b.start; end = end_of c; «module» = b.«module» }

-- one contribution more: it goes on with the newest block, or opens one
abbrev pub more : List Contribution → SectionContribution → List Contribution
more [] c = block c ∷ []
more (b ∷ bs) c = cond (joins b c) (grown b c ∷ bs) (block c ∷ b ∷ bs)

-- the blocks of neighbouring contributions of one section and module, the newest first
abbrev pub blocks : List SectionContribution → List Contribution
blocks cs = fold more [] cs

-- the blocks in order of section, start, end and module, each as often as it came
pub record Stands (bs xs : List Contribution) : Type 0 where
  pub in_order : InOrder contribution_rank xs
  pub as_often : (c : Contribution) → tally contribution_rank (contribution_rank c) xs ≡ tally contribution_rank (contribution_rank c) bs

-- b starts below the end of a, in one section
abbrev pub overlaps : Contribution → Contribution → Bool
overlaps a b = a.section == b.section && nat_lt b.start a.end

-- the first two neighbours that overlap
abbrev pub first_overlap : List Contribution → Option Refusal
first_overlap [] = None
first_overlap (a ∷ []) = None
first_overlap (a ∷ b ∷ xs) = cond (overlaps a b) (Some (Overlapping a.section a.«module» b.«module»)) (first_overlap (b ∷ xs))

-- a lies wholly before b
abbrev pub apart : Contribution → Contribution → Bool
apart a b = nat_lt a.section b.section || (a.section == b.section && nat_le a.end b.start)
