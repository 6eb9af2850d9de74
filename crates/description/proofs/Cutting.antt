-- Lines are cut off one after another. Assumes nothing.
use Rattle.std.proofs.Common.{◌≡◌, ℕ, ◌+◌, List, [], ◌∷◌, Some, None, Ok, Err, Option, Result, refl, ap, sym, subst, inl, inr, ◌∙◌, arith}
use Rattle.std.proofs.lemmas.Bool.Decides.{nat_tests}
use Rattle.words.specs.Cuts.{cut_at}
use Rattle.description.specs.declared.Description.{Description}
use Rattle.description.specs.declared.mistake.ReadError.{ReadError}
use Rattle.description.specs.declared.mistake.ReadError.TheVariants.{At, NoMemory}
use Rattle.description.specs.Checks.{Checked, and_then}
use Rattle.description.specs.Drafts.{Lists, line_said}
use Rattle.description.specs.Memory.{LineGrows, RunsOut, TextRunsOut}
use Rattle.description.specs.Described.{lines_of, lines_said, text_said, numbered, described, description_of, Content, content, Reads}

abbrev after_cut : List ℕ → Option (List ℕ × List ℕ) → List (List ℕ)
after_cut cs None = cs ∷ []
after_cut cs (Some p) = p.0 ∷ lines_of p.1

-- a text is its first line, and the lines of what stands below
first_line : (cs : List ℕ) → lines_of cs ≡ after_cut cs (cut_at 10 cs)
first_line [] = refl
first_line (c ∷ cs) = let ih = first_line cs in grind (arith, nat_tests)

pub cut_line : (cs a b : List ℕ) → cut_at 10 cs ≡ Some (a, b) → lines_of cs ≡ a ∷ lines_of b
cut_line cs a b e = first_line cs ∙ ap (after_cut cs) e

pub last_line : (cs : List ℕ) → cut_at 10 cs ≡ None → lines_of cs ≡ cs ∷ []
last_line cs e = first_line cs ∙ ap (after_cut cs) e

-- what comes of a text of which lines were read
from_line : (text rest line : List ℕ) (ls : List (List ℕ)) (n : ℕ) (a : Lists) → text_said text ≡ lines_said n (lines_of rest) a → lines_of rest ≡ line ∷ ls → text_said text ≡ and_then (numbered n (line_said line a)) (lines_said (n + 1) ls)
from_line text rest line ls n a h c = h ∙ ap (λ z. lines_said n z a) c

-- the first line with a mistake ends the reading
line_fails : (text rest line : List ℕ) (ls : List (List ℕ)) (n : ℕ) (a b : Lists) (e : ReadError) → text_said text ≡ lines_said n (lines_of rest) a → lines_of rest ≡ line ∷ ls → (RunsOut (lines_of rest) a → TextRunsOut text) → Reads {X = Unit {0}} (LineGrows line a) (λ _. b) (Err e) (numbered n (line_said line a)) → Reads (TextRunsOut text) content (Err e) (description_of text)
line_fails text rest line ls n a b (At m k) h c up r =
    ap (λ z. and_then z (λ d. Ok (described d))) (from_line text rest line ls n a h c ∙ ap (λ z. and_then z (lines_said (n + 1) ls)) r)
line_fails text rest line ls n a b NoMemory h c up r = up (subst (λ z. RunsOut z a) (sym c) (inl r))

pub ends : (text rest line : List ℕ) (ls : List (List ℕ)) (n : ℕ) (a b : Lists) (e : ReadError) (q : Result (Unit {0}) ReadError) (r : Result Description ReadError) → r ≡ Err e → q ≡ Err e → text_said text ≡ lines_said n (lines_of rest) a → lines_of rest ≡ line ∷ ls → (RunsOut (lines_of rest) a → TextRunsOut text) → Reads (LineGrows line a) (λ _. b) q (numbered n (line_said line a)) → Reads (TextRunsOut text) content r (description_of text)
ends text rest line ls n a b e q r f g h c up k =
    subst (λ z. Reads (TextRunsOut text) content z (description_of text)) (sym f) (line_fails text rest line ls n a b e h c up (subst (λ z. Reads (LineGrows line a) (λ _. b) z (numbered n (line_said line a))) g k))

-- a line that has no mistake is added, and the reading goes on below it
pub goes_on : (text rest line : List ℕ) (ls : List (List ℕ)) (n : ℕ) (a b : Lists) → text_said text ≡ lines_said n (lines_of rest) a → lines_of rest ≡ line ∷ ls → numbered n (line_said line a) ≡ Ok b → text_said text ≡ lines_said (n + 1) ls b
goes_on text rest line ls n a b h c k = from_line text rest line ls n a h c ∙ ap (λ z. and_then z (lines_said (n + 1) ls)) k

-- where memory runs out below a line that has no mistake, it runs out from that line on
pub below : (rest line : List ℕ) (ls : List (List ℕ)) (n : ℕ) (a b : Lists) → lines_of rest ≡ line ∷ ls → numbered n (line_said line a) ≡ Ok b → RunsOut ls b → RunsOut (lines_of rest) a
below rest line ls n a b c k r = subst (λ z. RunsOut z a) (sym c) (inr (b, said (line_said line a) k, r))
  where
    said : (x : Checked Lists) → numbered n x ≡ Ok b → x ≡ Ok b
    said x e = grind (arith, nat_tests)

-- where the last line has none, the text describes what was said
pub finishes : (text rest : List ℕ) (n : ℕ) (a b : Lists) (x : Content) → text_said text ≡ lines_said n (lines_of rest) a → lines_of rest ≡ rest ∷ [] → numbered n (line_said rest a) ≡ Ok b → x ≡ described b → description_of text ≡ Ok x
finishes text rest n a b x h c k d =
    ap (λ z. and_then z (λ y. Ok (described y))) (from_line text rest rest [] n a h c ∙ ap (λ z. and_then z (lines_said (n + 1) [])) k) ∙ ap (λ z. Ok z) (sym d)

pub ruleset lines = (cut_line, last_line)
