-- What the tables of modules mean. Assumes nothing.
use Rattle.std.specs.Prelude.{◌≡◌, ℕ, List, [], ◌∷◌, length, take, drop, Some, None, Option}
use Rattle.std.specs.List.{slice_get}
use Rattle.std.specs.Option.{option_map}
use Rattle.order.specs.Rank.{InOrder, at}
use Rattle.base.specs.Lists.{clean}
use Rattle.base.specs.Rows.{offset_rank}
use Rattle.provider.specs.declared.symbols.ModuleState.{ModuleState}
use Rattle.provider.specs.declared.symbols.ModuleState.TheVariants.{Absent, Broken, Present}
use Rattle.provider.specs.declared.symbols.SiteRow.{SiteRow}
use Rattle.provider.specs.declared.symbols.LineRow.{LineRow}
use Rattle.provider.specs.Modules.{Listed, Module, Content, Modules, none_listed, absent, broken, content, present}
use Rattle.modules.specs.declared.tables.RowRange.{RowRange}
use Rattle.modules.specs.declared.tables.ModuleRow.{ModuleRow}
use Rattle.modules.specs.declared.tables.SiteList.{SiteList}
use Rattle.modules.specs.declared.tables.LineList.{LineList}
use Rattle.modules.specs.declared.tables.ModuleRows.{ModuleRows}
use Rattle.modules.specs.Ranks.{site_rank, line_rank, file_rank}

-- the part of a table that a row of another names
abbrev pub part : {X : Type 0} → List X → RowRange → List X
part rows r = take r.count (drop r.first rows)

-- where no list has the key, there is nothing, and it ends clean
abbrev pub site_rows_of : ModuleRows → Option SiteList → Listed SiteRow
site_rows_of t None = none_listed
site_rows_of t (Some l) = record { items = part t.site_rows.now l.rows; ending = l.ending }

abbrev pub line_rows_of : ModuleRows → Option LineList → Listed LineRow
line_rows_of t None = none_listed
line_rows_of t (Some l) = record { items = part t.line_rows.now l.rows; ending = l.ending }

abbrev pub module_of : ModuleRows → ModuleRow → Module
module_of t m = record {
  symbols = part t.symbols.now m.symbols;
  symbols_end = m.symbols_end;
  extras = m.extras;
  site_rows = λ site start. site_rows_of t (at site_rank (site ∷ offset_rank start) (part t.site_lists.now m.site_lists));
  line_rows = λ start. line_rows_of t (at line_rank (offset_rank start) (part t.line_lists.now m.line_lists));
  file = λ number. option_map (λ f. f.name) (at file_rank (number ∷ []) (part t.files.now m.files));
}

-- by the state that its row gives it
abbrev pub content_of : ModuleState → Module → Content
content_of Absent m = absent
content_of Broken m = broken
content_of Present m = present m

abbrev pub row_content : ModuleRows → Option ModuleRow → Content
row_content t None = absent
row_content t (Some m) = content_of m.state (module_of t m)

-- a module's number is the number of its row
abbrev pub modules_of : ModuleRows → Modules
modules_of t = record {
  count = length t.modules.now;
  at = λ k. row_content t (slice_get t.modules.now k);
}

abbrev no_rows : RowRange
no_rows = record { first = 0; count = 0 }

-- the row of a module that has nothing
abbrev pub no_module : ModuleRow
no_module = record {
  state = Absent;
  symbols = no_rows;
  symbols_end = clean;
  extras = clean;
  site_lists = no_rows;
  line_lists = no_rows;
  files = no_rows;
}

-- a row whose parts answer every question about module k, and are in order
pub record AnswersFor (t : ModuleRows) (k : ℕ) (m : ModuleRow) : Type 0 where
  pub means : content ((modules_of t).at k) ≡ module_of t m
  pub site_lists : InOrder site_rank (part t.site_lists.now m.site_lists)
  pub line_lists : InOrder line_rank (part t.line_lists.now m.line_lists)
  pub files : InOrder file_rank (part t.files.now m.files)
