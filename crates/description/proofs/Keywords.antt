-- Which words are texts. Assumes nothing.
use Rattle.std.proofs.Common.{◌≡◌, ℕ, Bool, true, false, List, refl}
use Rattle.std.specs.Str.{IsUtf8, is_utf8}
use Rattle.std.proofs.lemmas.Str.{IsUtf8-from_is_utf8, is_utf8-from_IsUtf8}

false_unless : (b : Bool) → ¬ (b ≡ true) → b ≡ false
false_unless true h = absurd (h refl)
false_unless false h = refl

pub text : (bs : List ℕ) → IsUtf8 bs → is_utf8 bs ≡ true
text bs h = is_utf8-from_IsUtf8 bs h

pub no_text : (bs : List ℕ) → ¬ IsUtf8 bs → is_utf8 bs ≡ false
no_text bs h = false_unless (is_utf8 bs) (λ e. h (IsUtf8-from_is_utf8 bs e))

pub ruleset texts = (text, no_text)
