-- The list of functions, as far as it has come. Assumes nothing.
use Rattle.std.proofs.Common.{◌≡◌, ℕ, suc, ◌+◌, ◌-◌, ◌<◌, List, map, Some, None, Err, Option, Result, sym, ap, ◌∙◌, arith}
use Rattle.base.specs.declared.refusal.Refusal.{Refusal}
use Rattle.building.specs.Outcome.{Built}
use Rattle.provider.specs.Modules.{Modules}
use Rattle.lookup.specs.Reading.{Shelved, shelve}
use Rattle.addresses.specs.declared.Address.{Address}
use Rattle.listing.specs.Listing.{Listed, with_offsets, procedure_offset, with_modules, listed}
use Rattle.listing.proofs.History.{after_procedures, after_wanted}

module _ (ms : Modules) (c : Built) (rows : ℕ) (before : Shelved) where
  abbrev list : Listed
  list = listed ms c rows before

  -- the modules from number k on are still to come
  abbrev pub Come : ℕ → List Address → Shelved → Type 0
  Come k xs s = with_modules ms c.sections rows k (ms.count - k) xs s ≡ list

  module _ (k : ℕ) (inside : k < ms.count) (xs : List Address) (s : Shelved) (come : Come k xs s) where
    -- number k is next
    next : list ≡ after_wanted ms c.sections rows (k + 1) (ms.count - (k + 1)) xs (shelve ms k s).shelf (shelve ms k s).refusal
    next =
        let n : ms.count - k ≡ suc (ms.count - (k + 1)) = omega arith in
        sym come ∙ ap (λ left. with_modules ms c.sections rows k left xs s) n

    wanted : (o : Option Refusal) → o ≡ (shelve ms k s).refusal → list ≡ after_wanted ms c.sections rows (k + 1) (ms.count - (k + 1)) xs (shelve ms k s).shelf o
    wanted o h = next ∙ ap (after_wanted ms c.sections rows (k + 1) (ms.count - (k + 1)) xs (shelve ms k s).shelf) (sym h)

    pub refused_module : (e : Refusal) → Some e ≡ (shelve ms k s).refusal → list ≡ record { answer = Err e; shelf = (shelve ms k s).shelf }
    refused_module e h = wanted (Some e) h

    -- the module was wanted, and its procedures were added
    pub added_module : (after : Shelved) → None ≡ (shelve ms k s).refusal → after ≡ (shelve ms k s).shelf → (r : Result (List Address) Refusal) → r ≡ with_offsets rows c.sections xs (map procedure_offset after.procedures) → list ≡ after_procedures ms c.sections rows (k + 1) (ms.count - (k + 1)) after r
    added_module after granted shelf r added =
        wanted None granted ∙
        ap (λ z. after_procedures ms c.sections rows (k + 1) (ms.count - (k + 1)) z (with_offsets rows c.sections xs (map procedure_offset z.procedures))) (sym shelf) ∙
        ap (after_procedures ms c.sections rows (k + 1) (ms.count - (k + 1)) after) (sym added)
