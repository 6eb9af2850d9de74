-- How long a list may be, how it ends, and what is answered to a question for one of its items. Assumes nothing.
use Rattle.std.specs.Prelude.{ℕ, Option, Some, None, Result, Ok, Err}
use Rattle.base.specs.declared.image.FaultCode.{FaultCode}

-- the most items of a list: a count has 32 bits
abbrev pub most_items : ℕ
most_items = 4294967295

-- with nothing, or with a fault
abbrev pub Ending : Type 0
Ending = Result (Unit {0}) FaultCode

abbrev pub clean : Ending
clean = Ok tt

-- the item, or none at a clean end, or the fault
abbrev pub Entry : Type 0 → Type 0
Entry X = Result (Option X) FaultCode

-- what is answered past the last item
abbrev pub ended : {X : Type 0} → Ending → Entry X
ended (Ok u) = Ok None
ended (Err code) = Err code

abbrev pub answered : {X : Type 0} → Ending → Option X → Entry X
answered end None = ended end
answered end (Some x) = Ok (Some x)
