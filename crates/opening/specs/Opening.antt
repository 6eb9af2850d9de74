-- What the provider of a description means, and why none is opened. Assumes nothing.
use Rattle.std.specs.Prelude.{ℕ, [], List, Some, None, Option, vec_items}
use Rattle.std.specs.Borrow.{Bor}
use Rattle.std.specs.Option.{option_or}
use Rattle.base.specs.declared.refusal.Refusal.{Refusal}
use Rattle.base.specs.declared.refusal.Refusal.TheVariants.{TooManyHidden}
use Rattle.image.specs.Image.{Image}
use Rattle.provider.specs.Modules.{Modules}
use Rattle.hiding.specs.Hidden.{hide, with_each}
use Rattle.rows.specs.Tables.{meaning_of}
use Rattle.rows.specs.declared.tables.ImageRows.{ImageRows}
use Rattle.modules.specs.Meaning.{modules_of}
use Rattle.modules.specs.declared.tables.ModuleRows.{ModuleRows}
use Rattle.row_provider.specs.Opening.{refused as refused_rows}
use Rattle.description.specs.declared.Description.{Description}

-- a list as a slice at some place; what tables mean does not hang on the place
abbrev pub lent : {X : Type 0} → List X → Bor (List X)
lent xs = record { ref_ptr = (0, 0); now = xs }

-- the rows of a description
abbrev pub image_rows : Description → ImageRows
image_rows d = record {
  text = lent (vec_items d.text);
  sections = lent (vec_items d.image.sections);
  symbols = lent (vec_items d.image.symbols);
  symbols_end = d.symbols_end;
  contributions = lent (vec_items d.image.contributions);
  contributions_end = d.contributions_end;
}

abbrev pub module_rows : Description → ModuleRows
module_rows d = record {
  modules = lent (vec_items d.modules.modules);
  symbols = lent (vec_items d.modules.parts.symbols);
  site_lists = lent (vec_items d.modules.parts.sites.lists);
  site_rows = lent (vec_items d.modules.parts.sites.rows);
  line_lists = lent (vec_items d.modules.parts.lines.lists);
  line_rows = lent (vec_items d.modules.parts.lines.rows);
  files = lent (vec_items d.modules.parts.files);
}

-- what the provider means: the rows, without the hidden modules
abbrev pub described_image : Description → Image
described_image d = meaning_of (image_rows d)

abbrev pub described_modules : Description → Modules
described_modules d = hide (vec_items d.hidden) (modules_of (module_rows d))

-- which refusal it is where the hidden modules do not fit in a layer
abbrev pub overfull : Option (List ℕ) → Option Refusal
overfull (Some numbers) = None
overfull None = Some TooManyHidden

-- a bad row comes first
abbrev pub refused : Description → Option Refusal
refused d = option_or (refused_rows (image_rows d) (module_rows d)) (overfull (with_each (vec_items d.hidden) []))
