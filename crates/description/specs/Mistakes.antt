-- How mistakes are handed on. Assumes nothing.
use Rattle.std.specs.Prelude.{◌≡◌, ℕ, Ok, Err, IsOk, Result}
use Rattle.words.specs.declared.quote.QuoteError.{QuoteError}
use Rattle.words.specs.declared.quote.QuoteError.TheVariants.{BadEscape, NoMemory as NoRoom}
use Rattle.description.specs.declared.mistake.AddError.{AddError}
use Rattle.description.specs.declared.mistake.AddError.TheVariants.{Wrong, NoMemory}
use Rattle.description.specs.declared.mistake.Mistake.TheVariants.{BadEscape as Escape}
use Rattle.description.specs.Checks.{Checked}
use Rattle.description.specs.declared.mistake.ReadError.{ReadError}
use Rattle.description.specs.declared.mistake.ReadError.TheVariants.{At, NoMemory as OutOfMemory}

abbrev pub quote_mistake : QuoteError → AddError
quote_mistake BadEscape = Wrong Escape
quote_mistake NoRoom = NoMemory

abbrev pub at_line : ℕ → AddError → ReadError
at_line n (Wrong m) = At n m
at_line n NoMemory = OutOfMemory

-- what the code has added: what is to be added, or why it is not; or memory runs out, which it may do only where `Grows`
abbrev pub AddsAs : {X Y : Type 0} → Type 0 → (X → Y) → Result X AddError → Checked Y → Type 0
AddsAs Grows view (Ok x) wanted = wanted ≡ Ok (view x)
AddsAs Grows view (Err (Wrong m)) wanted = wanted ≡ Err m
AddsAs Grows view (Err NoMemory) wanted = Grows

-- the same, where memory runs out only where there is no mistake
abbrev pub Adds : {Y : Type 0} → Type 0 → Result (Unit {0}) AddError → Checked Y → Y → Type 0
Adds Grows r wanted now = AddsAs (Grows × IsOk wanted) (λ _. now) r wanted
