-- What the caller's tables mean, and which of their rows is refused. Assumes nothing.
use Rattle.std.specs.Prelude.{[], length, Option}
use Rattle.std.specs.Option.{option_or}
use Rattle.base.specs.Lists.{clean, most_items}
use Rattle.base.specs.declared.refusal.Refusal.{Refusal}
use Rattle.base.specs.declared.refusal.RowTable.TheVariants.{Sections, PublicSymbolRows, ContributionRows}
use Rattle.image.specs.Image.{Image}
use Rattle.image.specs.Checks.{name_within, crowded, outside}
use Rattle.rows.specs.declared.tables.ImageRows.{ImageRows}

-- the tables, by what they hold
abbrev pub meaning_of : ImageRows → Image
meaning_of r = record {
  text = r.text.now;
  sections = r.sections.now;
  symbols = r.symbols.now;
  symbols_end = r.symbols_end;
  contributions = r.contributions.now;
  contributions_end = r.contributions_end;
}

abbrev pub nothing : Image
nothing = record {
  text = [];
  sections = [];
  symbols = [];
  symbols_end = clean;
  contributions = [];
  contributions_end = clean;
}

-- the first of these that holds decides
abbrev pub bad_row : Image → Option Refusal
bad_row i =
    option_or (crowded Sections most_items i.sections)
    (option_or (crowded PublicSymbolRows most_items i.symbols)
    (option_or (crowded ContributionRows most_items i.contributions)
    (outside (λ long s. name_within long s.name) PublicSymbolRows (length i.text) 0 i.symbols)))
