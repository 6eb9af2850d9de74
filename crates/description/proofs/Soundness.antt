-- What holds of all that a text says: it holds at first, and each line keeps it. Assumes nothing.
use Rattle.std.proofs.Common.{◌≡◌, ℕ, ◌+◌, List, [], ◌∷◌, Ok, Err, refl}
use Rattle.std.specs.List.{AllByRecursion}
use Rattle.description.specs.Checks.{Checked}
use Rattle.description.specs.Described.{lines_of, numbered, lines_said, text_said}
use Rattle.description.specs.Drafts.{Lists, nothing, line_said}
use Rattle.description.specs.Names.{Named}
use Rattle.description.specs.Sound.{Short, Roomy, QuotingLine, Sound}
use Rattle.description.proofs.Naming.{line-names, nothing-names}
use Rattle.description.proofs.Shortness.{line-short, nothing-short}
use Rattle.description.proofs.Sizes.{line-room}
use Rattle.description.proofs.Steps.{at_ok, and_then_ok}

numbered_ok : (n : ℕ) (c : Checked Lists) (b : Lists) → numbered n c ≡ Ok b → c ≡ Ok b
numbered_ok n (Ok a) b e = at_ok (λ z. ◌≡◌ {A = Checked Lists} (Ok a) (Ok z)) a b e refl
numbered_ok n (Err m) b e = absurd cc

-- what each line of which Q holds keeps
kept : (Q : List ℕ → Type 0) (P : Lists → Type 0) → ((l : List ℕ) (a b : Lists) → line_said l a ≡ Ok b → Q l → P a → P b) → (n : ℕ) (ls : List (List ℕ)) (a b : Lists) → lines_said n ls a ≡ Ok b → AllByRecursion Q ls → P a → P b
kept Q P k n [] a b e q h = at_ok P a b e h
kept Q P k n (l ∷ ls) a b e q h =
    and_then_ok _ (numbered n (line_said l a)) b e (λ c p f. kept Q P k (n + 1) ls c b f q.1 (k l a c (numbered_ok n (line_said l a) c p) q.0 h))

all_lines : (ls : List (List ℕ)) → AllByRecursion (λ _. Unit {0}) ls
all_lines [] = tt
all_lines (l ∷ ls) = (tt, all_lines ls)

pub sound : (text : List ℕ) (a : Lists) → text_said text ≡ Ok a → Sound text a
sound text a e = record {
  short = kept (λ _. Unit {0}) Short (λ l b c d _ h. line-short l b c d h) 1 (lines_of text) nothing a e (all_lines (lines_of text)) nothing-short;
  room = kept (λ _. Unit {0}) (λ b. Roomy b.image) (λ l b c d _ h. line-room l b c d h) 1 (lines_of text) nothing a e (all_lines (lines_of text)) (record { starts = tt; contributions = tt; frames = tt; addresses = tt });
  names = λ q. kept QuotingLine Named line-names 1 (lines_of text) nothing a e q nothing-names;
}
