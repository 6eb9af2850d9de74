-- Which row is refused when a row provider opens. Assumes nothing.
use Rattle.std.specs.Option.{option_or}
use Rattle.std.specs.Prelude.{Option}
use Rattle.base.specs.declared.refusal.Refusal.{Refusal}
use Rattle.provider.specs.Modules.{Modules, absent}
use Rattle.rows.specs.declared.tables.ImageRows.{ImageRows}
use Rattle.rows.specs.Tables.{meaning_of, bad_row as bad_image_row}
use Rattle.modules.specs.declared.tables.ModuleRows.{ModuleRows}
use Rattle.modules.specs.BadRows.{bad_row as bad_module_row}

-- the image's tables come first
abbrev pub refused : ImageRows → ModuleRows → Option Refusal
refused image modules = option_or (bad_image_row (meaning_of image)) (bad_module_row image.text.now modules)

abbrev pub no_modules : Modules
no_modules = record { count = 0; at = λ k. absent }
