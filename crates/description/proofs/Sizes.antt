-- Sizes that are said are small. Assumes nothing.
use Rattle.std.proofs.Common.{if◌then◌else◌, ◌≡◌, ℕ, ◌^◌, ◌≤◌, Bool, true, false, List, Some, None, Ok, Err, Option, IfSome, refl, arith}
use Rattle.std.proofs.lemmas.Bool.Decides.{nat_tests}
use Rattle.base.specs.declared.image.TextPart.{TextPart}
use Rattle.description.specs.declared.mistake.Mistake.{Mistake}
use Rattle.description.specs.declared.mistake.Mistake.TheVariants.{ModuleTooLarge, TableTooLarge, TableTwice}
use Rattle.description.specs.declared.row.ImageRow.{ImageRow}
use Rattle.description.specs.declared.row.ImageRow.TheVariants.{Public, StartTable, ContributionTable, FrameTable, AddressTable}
use Rattle.description.specs.declared.row.Row.{Row}
use Rattle.description.specs.declared.row.Row.TheVariants.{Text, Image, Part}
use Rattle.description.specs.Checks.{Checked}
use Rattle.description.specs.Drafts.{ImageLists, Lists, image_added, row_added, row_said, written_said, line_said}
use Rattle.description.specs.Fields.{Rest, whole, Field, given, and, into, Token, plain_word, quoted_word, next, plain, keyword, end, checked, number, small_number, size, text, ending}
use Rattle.description.specs.Lists.{appended, once}
use Rattle.description.specs.Reading.{section, public, contribution, table_of, table, module_state, part_of, image_row_of, same, row_of, row, Written, whole_row, line_row}
use Rattle.description.specs.Rows.{image_named, named}
use Rattle.description.specs.Sound.{Room, Roomy}
use Rattle.description.specs.Words.{is, keyword_of, number_in, table_rows}
use Rattle.description.proofs.Steps.{at_ok, and_then_ok, at_mapped}

-- a table is not said to have too many rows
abbrev FittingImage : ImageRow → Type 0
FittingImage (StartTable n) = n ≤ 2 ^ 24
FittingImage (ContributionTable n) = n ≤ 2 ^ 24
FittingImage (FrameTable n) = n ≤ 2 ^ 24
FittingImage (AddressTable n) = n ≤ 2 ^ 24
FittingImage r = Unit {0}

abbrev Fitting : Row → Type 0
Fitting (Image r) = FittingImage r
Fitting r = Unit {0}

-- P holds of what is read
abbrev Yields : {X : Type 0} → (X → Type 0) → Field X → Type 0
Yields {X} P f = (r s : Rest) (x : X) → f r ≡ Ok (x, s) → P x

yields_and : {X Y : Type 0} (Q : X → Type 0) (P : Y → Type 0) (f : Field X) (k : X → Field Y) → Yields Q f → ((x : X) → Q x → Yields P (k x)) → Yields P (and f k)
yields_and Q P f k h j r s y e = and_then_ok _ (f r) (y, s) e (λ q p g. j q.0 (h r q.1 q.0 p) q.1 s y g)

any : {X : Type 0} (f : Field X) → Yields (λ _. Unit {0}) f
any f r s x e = tt

yields_given : {X : Type 0} (P : X → Type 0) (x : X) → P x → Yields P (given x)
yields_given P x h r s y e = at_ok (λ q. P q.0) (x, r) (y, s) e h

yields_if : {X : Type 0} (P : X → Type 0) (b : Bool) (f g : Field X) → Yields P f → Yields P g → Yields P (if b then f else g)
yields_if P true f g h k = h
yields_if P false f g h k = k

yields_into : {X Y : Type 0} (Q : X → Type 0) (P : Y → Type 0) (f : Field X) (make : X → Y) → Yields Q f → ((x : X) → Q x → P (make x)) → Yields P (into f make)
yields_into Q P f make h j = yields_and Q P f (λ x. given (make x)) h (λ x q. yields_given P (make x) (j x q))

yields_any : {X Y : Type 0} (P : Y → Type 0) (f : Field X) (make : X → Y) → ((x : X) → P (make x)) → Yields P (into f make)
yields_any P f make h = yields_into (λ _. Unit {0}) P f make (any f) (λ x _. h x)

few_rows : (w : List ℕ) (n : ℕ) → table_rows w ≡ Ok n → n ≤ 2 ^ 24
few_rows w n e = and_then_ok _ (number_in w TableTooLarge) n e (λ m _ f. grind (arith, nat_tests))

yields_checked : {X : Type 0} (P : X → Type 0) (c : Checked X) → ((x : X) → c ≡ Ok x → P x) → Yields P (checked c)
yields_checked P (Ok x) h = yields_given P x (h x refl)
yields_checked P (Err m) h = λ r s x e. absurd cc

yields_size : Yields (λ n. n ≤ 2 ^ 24) size
yields_size = yields_and _ _ plain (λ w. checked (table_rows w)) (any plain) (λ w _. yields_checked _ (table_rows w) (few_rows w))

yields_table : Yields FittingImage table
yields_table =
    yields_and _ _ keyword table_of (any keyword) (λ w _. yields_if _ (is "starts" w) _ _ (fits StartTable (λ n h. h)) (yields_if _ (is "contributions" w) _ _ (fits ContributionTable (λ n h. h)) (yields_if _ (is "frames" w) _ _ (fits FrameTable (λ n h. h)) (yields_if _ (is "addresses" w) _ _ (fits AddressTable (λ n h. h)) (λ r s x e. absurd cc)))))
  where
    fits : (make : ℕ → ImageRow) → ((n : ℕ) → n ≤ 2 ^ 24 → FittingImage (make n)) → Yields FittingImage (into size make)
    fits make h = yields_into (λ n. n ≤ 2 ^ 24) FittingImage size make yields_size h

yields_image : (w : List ℕ) → Yields Fitting (image_row_of w)
unfolding image_row_of
yields_image w =
    yields_if _ (is "section" w) _ _ (yields_any _ section _ (λ x. tt)) (yields_if _ (is "public" w) _ _ (yields_any _ public _ (λ x. tt)) (yields_if _ (is "contribution" w) _ _ (yields_any _ contribution _ (λ x. tt)) (yields_if _ (is "publics" w) _ _ (yields_any _ ending _ (λ x. tt)) (yields_if _ (is "contributions" w) _ _ (yields_any _ ending _ (λ x. tt)) (yields_if _ (is "table" w) _ _ (yields_into FittingImage Fitting table Image yields_table (λ x h. h)) (yields_any _ (part_of w) Part (λ x. tt)))))))

yields_named : (w : List ℕ) → Yields Fitting (row_of w)
yields_named w =
    yields_if _ (is "text" w) _ _ (yields_any _ text _ (λ x. tt)) (yields_if _ (is "module" w) _ _ (yields_any _ module_state _ (λ x. tt)) (yields_if _ (is "hide" w) _ _ (yields_any _ (small_number ModuleTooLarge) _ (λ x. tt)) (yields_if _ (is "find" w) _ _ (yields_any _ number _ (λ x. tt)) (yields_if _ (is "frames" w) _ _ (yields_any _ number _ (λ x. tt)) (yields_if _ (is "list" w) _ _ (yields_given _ _ tt) (yields_if _ (is "same" w) _ _ (yields_any _ same _ (λ x. tt)) (yields_image w)))))))

yields_row : (t : Token) → Yields Fitting (row t)
yields_row (plain_word w) = yields_named (keyword_of w)
yields_row (quoted_word w) = λ r s x e. absurd cc

yields_whole : (t : Token) → Yields Fitting (and (row t) (λ x. into end (λ _. x)))
yields_whole t = yields_and Fitting Fitting (row t) _ (yields_row t) (λ x h. yields_any Fitting end (λ _. x) (λ _. h))

abbrev FittingWritten : Option Written → Type 0
FittingWritten o = IfSome o (λ w. Fitting w.row)

whole_fits : (o : Option Token) (r : Rest) (w : Option Written) → whole_row o r ≡ Ok w → FittingWritten w
whole_fits None r w e = at_ok FittingWritten None w e tt
whole_fits (Some t) r w e =
    at_mapped FittingWritten _ (and (row t) (λ x. into end (λ _. x)) r) w e (λ q p. yields_whole t r q.1 q.0 p)

line-fits : (line : List ℕ) (w : Option Written) → line_row line ≡ Ok w → FittingWritten w
line-fits line w e = and_then_ok _ (next (whole line)) w e (λ q _ f. whole_fits q.0 q.1 w f)

once-room : (m : Mistake) (o : Option ℕ) (n : ℕ) (p : Option ℕ) → once m o n ≡ Ok p → n ≤ 2 ^ 24 → Room p
once-room m None n p e h = at_ok Room (Some n) p e h
once-room m (Some k) n p e h = absurd cc

image-room : (r : ImageRow) (a b : ImageLists) → image_added r a ≡ Ok b → FittingImage r → Roomy a → Roomy b
image-room (StartTable n) a b e f h = at_mapped Roomy _ _ b e (λ x p. record { starts = once-room TableTwice a.said.start_rows n x p f; contributions = h.contributions; frames = h.frames; addresses = h.addresses })
image-room (ContributionTable n) a b e f h = at_mapped Roomy _ _ b e (λ x p. record { starts = h.starts; contributions = once-room TableTwice a.said.contribution_rows n x p f; frames = h.frames; addresses = h.addresses })
image-room (FrameTable n) a b e f h = at_mapped Roomy _ _ b e (λ x p. record { starts = h.starts; contributions = h.contributions; frames = once-room TableTwice a.said.frame_rows n x p f; addresses = h.addresses })
image-room (AddressTable n) a b e f h = at_mapped Roomy _ _ b e (λ x p. record { starts = h.starts; contributions = h.contributions; frames = h.frames; addresses = once-room TableTwice a.said.address_rows n x p f })
image-room r a b e f h = at_mapped Roomy _ _ b e (λ x p. record { starts = h.starts; contributions = h.contributions; frames = h.frames; addresses = h.addresses })

row_room : (r : Row) (a b : Lists) → row_added r a ≡ Ok b → Fitting r → Roomy a.image → Roomy b.image
row_room Text a b e f h = at_ok (λ z. Roomy z.image) a b e h
row_room (Image r) a b e f h = at_mapped (λ z. Roomy z.image) _ _ b e (λ x p. image-room r a.image x p f h)
row_room r a b e f h = at_mapped (λ z. Roomy z.image) _ _ b e (λ x p. h)

image_fits : (n : TextPart) (r : ImageRow) → FittingImage r → FittingImage (image_named n r)
image_fits n (Public s) f = tt
image_fits n r f = f

row_fits : (n : TextPart) (r : Row) → Fitting r → Fitting (named n r)
row_fits n (Image r) f = image_fits n r f
row_fits n r f = tt

quoted_room : (o : Option (List ℕ)) (r : Row) (a b : Lists) → row_said r o a ≡ Ok b → Fitting r → Roomy a.image → Roomy b.image
quoted_room None r a b e f h = row_room r a b e f h
quoted_room (Some raw) r a b e f h =
    and_then_ok _ (appended raw a.text) b e (λ q p g. row_room (named q.1 r) (record a { text = q.0 }) b g (row_fits q.1 r f) h)

written_room : (o : Option Written) (a b : Lists) → written_said o a ≡ Ok b → FittingWritten o → Roomy a.image → Roomy b.image
written_room None a b e f h = at_ok (λ z. Roomy z.image) a b e h
written_room (Some w) a b e f h = quoted_room w.quoted w.row a b e f h

pub line-room : (line : List ℕ) (a b : Lists) → line_said line a ≡ Ok b → Roomy a.image → Roomy b.image
unfolding line_said
line-room line a b e h = and_then_ok _ (line_row line) b e (λ o p f. written_room o a b f (line-fits line o p) h)
