-- How addresses stand, and the empty row. Assumes nothing.
use Rattle.std.specs.Prelude.{ℕ, List, [], ◌∷◌}
use Rattle.order.specs.declared.Meeting.{Meeting}
use Rattle.order.specs.declared.Meeting.TheVariants.{Stays}
use Rattle.addresses.specs.declared.Address.{Address}

abbrev pub address_rank : Address → List ℕ
address_rank a = a.rva ∷ []

-- an address stands once
abbrev pub address_meets : Address → Address → Meeting
address_meets a newer = Stays

abbrev pub no_address : Address
no_address = record { rva = 0 }
