-- What it says that no row is bad. Assumes nothing.
use Rattle.std.proofs.Common.{◌≡◌, ℕ, zero, suc, ◌+◌, ◌<◌, List, [], ◌∷◌, length, get_or, None, arith}
use Rattle.std.proofs.lemmas.Bool.Decides.{nat_tests}
use Rattle.base.specs.declared.refusal.RowTable.TheVariants.{PublicSymbolRows}
use Rattle.base.specs.declared.image.PublicSymbol.{PublicSymbol}
use Rattle.image.specs.Image.{Image, Lawful, PartOf}
use Rattle.image.specs.Checks.{name_within, outside}
use Rattle.rows.specs.Tables.{bad_row}

names_good : (text : List ℕ) (k : ℕ) (ss : List PublicSymbol) → outside (λ long s. name_within long s.name) PublicSymbolRows (length text) k ss ≡ None → (j : ℕ) (d : PublicSymbol) → j < length ss → PartOf text (get_or ss j d).name
names_good text k [] h j d l = absurd (omega arith)
names_good text k (s ∷ ss) h zero d l = grind (arith, nat_tests)
names_good text k (s ∷ ss) h (suc j) d l = let ih = names_good text (k + 1) ss in grind (arith, nat_tests)

pub good_rows : (i : Image) → bad_row i ≡ None → Lawful i
good_rows i h = record {
  few_sections = grind (arith, nat_tests);
  few_symbols = grind (arith, nat_tests);
  few_contributions = grind (arith, nat_tests);
  names = names_good i.text 0 i.symbols (grind (arith, nat_tests));
}
