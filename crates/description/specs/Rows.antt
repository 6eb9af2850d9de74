-- The name that a row bears. Assumes nothing.
use Rattle.base.specs.declared.image.TextPart.{TextPart}
use Rattle.provider.specs.declared.symbols.Symbol.{Symbol}
use Rattle.provider.specs.declared.symbols.Symbol.TheVariants.{Procedure, Thunk}
use Rattle.description.specs.declared.row.ImageRow.{ImageRow}
use Rattle.description.specs.declared.row.ImageRow.TheVariants.{Public}
use Rattle.description.specs.declared.row.ModulePart.{ModulePart}
use Rattle.description.specs.declared.row.ModulePart.TheVariants.{Symbol as SymbolPart, File}
use Rattle.description.specs.declared.row.Row.{Row}
use Rattle.description.specs.declared.row.Row.TheVariants.{Image, Part}

-- what bears a name, with the name n
abbrev pub symbol_named : TextPart → Symbol → Symbol
symbol_named n (Procedure offset length end type name) = Procedure offset length end type n
symbol_named n (Thunk offset length end name) = Thunk offset length end n
symbol_named n s = s

abbrev pub image_named : TextPart → ImageRow → ImageRow
image_named n (Public p) = Public (record p { name = n })
image_named n r = r

abbrev pub part_named : TextPart → ModulePart → ModulePart
part_named n (SymbolPart s) = SymbolPart (record s { symbol = symbol_named n s.symbol })
part_named n (File f) = File (record f { name = n })
part_named n p = p

abbrev pub named : TextPart → Row → Row
named n (Image r) = Image (image_named n r)
named n (Part p) = Part (part_named n p)
named n r = r
