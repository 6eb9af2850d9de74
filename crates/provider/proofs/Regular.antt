-- A module that has nothing. Assumes nothing.
use Rattle.std.proofs.Common.{refl, lit<}
use Rattle.provider.specs.Modules.{RegularModule, nothing}

-- it has nothing that could be out of rule
pub nothing_regular : RegularModule nothing
nothing_regular = record { rises = refl; few_symbols = lit< tt; few_site_rows = λ site start. lit< tt; few_line_rows = λ start. lit< tt }
