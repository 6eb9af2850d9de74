-- Which row of the tables of modules is refused. Assumes nothing.
use Rattle.std.specs.Prelude.{ℕ, ◌+◌, Bool, cond, ◌&&◌, List, [], ◌∷◌, length, Some, None, Option, nat_le}
use Rattle.std.specs.Option.{option_or}
use Rattle.order.specs.Rank.{before}
use Rattle.base.specs.Lists.{most_items}
use Rattle.base.specs.declared.refusal.Refusal.{Refusal}
use Rattle.base.specs.declared.refusal.Refusal.TheVariants.{BadRow}
use Rattle.base.specs.declared.refusal.RowTable.{RowTable}
use Rattle.base.specs.declared.refusal.RowTable.TheVariants.{Modules, Records, SiteLists, LineLists, Files}
use Rattle.image.specs.Checks.{name_within, crowded, outside}
use Rattle.provider.specs.Modules.{index_rank, most_modules}
use Rattle.provider.specs.Names.{symbol_within}
use Rattle.modules.specs.declared.tables.RowRange.{RowRange}
use Rattle.modules.specs.declared.tables.ModuleRow.{ModuleRow}
use Rattle.modules.specs.declared.tables.ModuleRows.{ModuleRows}
use Rattle.modules.specs.Ranks.{site_rank, line_rank, file_rank}
use Rattle.modules.specs.Meaning.{part}

-- whether rows lie inside a table of a length, and are a list
abbrev pub rows_within : ℕ → RowRange → Bool
rows_within long r = nat_le (r.first + r.count) long && nat_le r.count most_items

-- the first row that does not come after its neighbour before it; the first of all has the number k
abbrev pub unrisen : {X : Type 0} → (X → List ℕ) → RowTable → ℕ → List X → Option Refusal
unrisen rank table k [] = None
unrisen rank table k (x ∷ []) = None
unrisen rank table k (x ∷ y ∷ ys) = cond (before (rank x) (rank y)) (unrisen rank table (k + 1) (y ∷ ys)) (Some (BadRow table (k + 1)))

-- the same of a part, by the numbers that its rows have in the whole table
abbrev pub part_unrisen : {X : Type 0} → (X → List ℕ) → RowTable → List X → RowRange → Option Refusal
part_unrisen rank table rows r = unrisen rank table r.first (part rows r)

-- whether the parts of a module lie inside their tables
abbrev pub parts_within : ModuleRows → ModuleRow → Bool
parts_within t m =
    rows_within (length t.symbols.now) m.symbols
    && (rows_within (length t.site_lists.now) m.site_lists
    && (rows_within (length t.line_lists.now) m.line_lists
    && rows_within (length t.files.now) m.files))

abbrev pub parts_unrisen : ModuleRows → ModuleRow → Option Refusal
parts_unrisen t m =
    option_or (part_unrisen index_rank Records t.symbols.now m.symbols)
    (option_or (part_unrisen site_rank SiteLists t.site_lists.now m.site_lists)
    (option_or (part_unrisen line_rank LineLists t.line_lists.now m.line_lists)
    (part_unrisen file_rank Files t.files.now m.files)))

abbrev pub bad_module : ModuleRows → ℕ → ModuleRow → Option Refusal
bad_module t k m = cond (parts_within t m) (parts_unrisen t m) (Some (BadRow Modules k))

-- module by module, whatever their states; they are counted from k
abbrev pub bad_modules : ModuleRows → ℕ → List ModuleRow → Option Refusal
bad_modules t k [] = None
bad_modules t k (m ∷ ms) = option_or (bad_module t k m) (bad_modules t (k + 1) ms)

-- the first of these that holds decides
abbrev pub bad_row : List ℕ → ModuleRows → Option Refusal
bad_row text t =
    option_or (crowded Modules most_modules t.modules.now)
    (option_or (outside (λ long r. symbol_within long r.symbol) Records (length text) 0 t.symbols.now)
    (option_or (outside (λ long f. name_within long f.name) Files (length text) 0 t.files.now)
    (option_or (outside (λ long l. rows_within long l.rows) SiteLists (length t.site_rows.now) 0 t.site_lists.now)
    (option_or (outside (λ long l. rows_within long l.rows) LineLists (length t.line_rows.now) 0 t.line_lists.now)
    (bad_modules t 0 t.modules.now)))))
