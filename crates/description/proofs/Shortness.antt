-- No list grows too long. Assumes nothing.
use Rattle.std.proofs.Common.{◌≡◌, ℕ, ◌^◌, ◌<◌, List, ◌++◌, length, Some, None, Ok, Option, rules}
use Rattle.modules.specs.declared.tables.RowRange.{RowRange}
use Rattle.base.specs.declared.image.TextPart.{TextPart}
use Rattle.words.specs.Quotes.{unquoted}
use Rattle.description.specs.declared.row.ImageRow.{ImageRow}
use Rattle.description.specs.declared.row.ImageRow.TheVariants.{Section, Public, Contribution}
use Rattle.description.specs.declared.row.ModulePart.{ModulePart}
use Rattle.description.specs.declared.row.ModulePart.TheVariants.{Symbol, File, Lines, Line, Inlined, Range}
use Rattle.description.specs.declared.row.Row.{Row}
use Rattle.description.specs.declared.row.Row.TheVariants.{Text, Image, Module, Part, Hide, Ask}
use Rattle.description.specs.Sound.{ShortImage, ShortParts, Short}
use Rattle.description.specs.Drafts.{ImageLists, Parted, PartLists, Lists, nothing, image_added, part_pushed, list_begun, list_grown, new_lines, new_site, longer_lines, longer_site, row_added, row_said, written_said, line_said}
use Rattle.description.specs.Lists.{short, pushed, appended, newest}
use Rattle.description.specs.Reading.{Written, line_row}
use Rattle.description.specs.Checks.{Checked}
use Rattle.description.specs.declared.mistake.Mistake.{Mistake}
use Rattle.description.specs.declared.mistake.Mistake.TheVariants.{BadEscape, TextTooLong, TooManyRows, NoLines, NoSite}
use Rattle.std.specs.Option.{ok_or}
use Rattle.description.specs.Rows.{named}
use Rattle.description.proofs.Growing.{module-grown}
use Rattle.description.proofs.Steps.{and_then_ok, at_ok, at_mapped, short-short}

record ShortParted {L R : Type 0} (a : Parted L R) : Type 0 where
  lists : length a.lists < 2 ^ 32
  rows : length a.rows < 2 ^ 32

begun_short : {L R : Type 0} (head : RowRange → L) (a b : Parted L R) → list_begun head a ≡ Ok b → length a.rows < 2 ^ 32 → ShortParted b
begun_short head a b e h = at_mapped ShortParted _ _ b e (λ x p. let k = short-short TooManyRows _ x p in search rules)

grown-short : {L R : Type 0} (none : Mistake) (longer : L → Checked L) (r : R) (a b : Parted L R) → list_grown none longer r a ≡ Ok b → ShortParted b
grown-short none longer r a b e =
    and_then_ok _ (newest none a.lists) b e (λ q _ f. and_then_ok _ (longer q.1) b f (λ l _ g. and_then_ok _ (pushed q.0 l) b g (λ ls p i. at_mapped ShortParted _ (pushed a.rows r) b i (λ rs d. record { lists = short-short TooManyRows _ ls p; rows = short-short TooManyRows _ rs d }))))

image-short : (r : ImageRow) (a b : ImageLists) → image_added r a ≡ Ok b → ShortImage a → ShortImage b
image-short (Section s) a b e h = at_mapped ShortImage _ _ b e (λ x p. let k = short-short TooManyRows _ x p in search rules)
image-short (Public s) a b e h = at_mapped ShortImage _ _ b e (λ x p. let k = short-short TooManyRows _ x p in search rules)
image-short (Contribution s) a b e h = at_mapped ShortImage _ _ b e (λ x p. let k = short-short TooManyRows _ x p in search rules)
image-short r a b e h = at_mapped ShortImage _ _ b e (λ x p. search rules)

part-short : (p : ModulePart) (a b : PartLists) → part_pushed p a ≡ Ok b → ShortParts a → ShortParts b
part-short (Symbol r) a b e h = at_mapped ShortParts _ _ b e (λ x p. let k = short-short TooManyRows _ x p in search rules)
part-short (File r) a b e h = at_mapped ShortParts _ _ b e (λ x p. let k = short-short TooManyRows _ x p in search rules)
part-short (Lines o d) a b e h = at_mapped ShortParts _ _ b e (λ x p. let k = begun_short (new_lines o d) a.lines x p h.line_rows in search rules)
part-short (Line r) a b e h = at_mapped ShortParts _ _ b e (λ x p. let k = grown-short NoLines longer_lines r a.lines x p in search rules)
part-short (Inlined s o d) a b e h = at_mapped ShortParts _ _ b e (λ x p. let k = begun_short (new_site s o d) a.sites x p h.site_rows in search rules)
part-short (Range r) a b e h = at_mapped ShortParts _ _ b e (λ x p. let k = grown-short NoSite longer_site r a.sites x p in search rules)
part-short p a b e h = at_ok ShortParts a b e h

row_short : (r : Row) (a b : Lists) → row_added r a ≡ Ok b → Short a → Short b
row_short Text a b e h = at_ok Short a b e h
row_short (Image r) a b e h = at_mapped Short _ _ b e (λ x p. let k = image-short r a.image x p h.image in search rules)
row_short (Module s) a b e h = at_mapped Short _ _ b e (λ x p. at_mapped (λ z. Short (record a { modules = z })) _ _ x p (λ ms d. let k = short-short TooManyRows _ ms d in search rules))
row_short (Part s) a b e h =
    at_mapped Short _ _ b e (λ x p. let g = module-grown s a.modules x p in let k = part-short s a.modules.parts x.parts g.1 h.parts in search rules)
row_short (Hide n) a b e h = at_mapped Short _ _ b e (λ x p. let k = short-short TooManyRows _ x p in search rules)
row_short (Ask q) a b e h = at_mapped Short _ _ b e (λ x p. let k = short-short TooManyRows _ x p in search rules)

text-short : (raw old : List ℕ) (q : List ℕ × TextPart) → appended raw old ≡ Ok q → length q.0 < 2 ^ 32
text-short raw old q e =
    and_then_ok _ (ok_or (unquoted raw) BadEscape) q e (λ bs _ f. at_mapped (λ (z : List ℕ × TextPart). length z.0 < 2 ^ 32) _ (short TextTooLong (old ++ bs)) q f (λ new p. short-short TextTooLong _ new p))

quoted_short : (o : Option (List ℕ)) (r : Row) (a b : Lists) → row_said r o a ≡ Ok b → Short a → Short b
quoted_short None r a b e h = row_short r a b e h
quoted_short (Some raw) r a b e h =
    and_then_ok _ (appended raw a.text) b e (λ q p f. let k = text-short raw a.text q p in row_short (named q.1 r) (record a { text = q.0 }) b f (search rules))

written_short : (o : Option Written) (a b : Lists) → written_said o a ≡ Ok b → Short a → Short b
written_short None a b e h = at_ok Short a b e h
written_short (Some w) a b e h = quoted_short w.quoted w.row a b e h

pub line-short : (line : List ℕ) (a b : Lists) → line_said line a ≡ Ok b → Short a → Short b
unfolding line_said
line-short line a b e h = and_then_ok _ (line_row line) b e (λ o _ f. written_short o a b f h)

pub nothing-short : Short nothing
nothing-short = search rules
