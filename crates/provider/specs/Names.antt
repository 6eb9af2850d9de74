-- The names in symbol records. Assumes nothing.
use Rattle.std.specs.Prelude.{ℕ, Bool, true}
use Rattle.image.specs.Checks.{name_within}
use Rattle.provider.specs.declared.symbols.Symbol.{Symbol}
use Rattle.provider.specs.declared.symbols.Symbol.TheVariants.{Procedure, Thunk, SeparatedCode, InlineSite, Other}

-- whether the name lies inside a text of a length; only procedures and thunks have one
abbrev pub symbol_within : ℕ → Symbol → Bool
symbol_within long (Procedure offset length end type name) = name_within long name
symbol_within long (Thunk offset length end name) = name_within long name
symbol_within long (SeparatedCode offset length end parent) = true
symbol_within long (InlineSite inlinee end) = true
symbol_within long Other = true
