-- What tables mean, and which of their rows is bad, goes by what they hold and not by where they lie. Assumes nothing.
use Rattle.std.proofs.Common.{◌≡◌, ◌∙◌, ℕ, ◌+◌, List, [], ◌∷◌, Some, None, Option, vec_items, refl, ap, length}
use Rattle.std.specs.List.{slice_get}
use Rattle.std.specs.Option.{option_or, option_map}
use Rattle.order.specs.Rank.{at}
use Rattle.base.specs.Rows.{offset_rank}
use Rattle.modules.specs.declared.tables.ModuleRow.{ModuleRow}
use Rattle.modules.specs.declared.tables.ModuleRows.{ModuleRows}
use Rattle.modules.specs.declared.tables.SiteList.{SiteList}
use Rattle.modules.specs.declared.tables.LineList.{LineList}
use Rattle.modules.specs.Ranks.{site_rank, line_rank, file_rank}
use Rattle.modules.specs.Meaning.{part, site_rows_of, line_rows_of, module_of, content_of, row_content, modules_of}
use Rattle.modules.specs.BadRows.{bad_module, bad_modules, bad_row}
use Rattle.description.specs.declared.Description.{Description}
use Rattle.opening.specs.Opening.{lent, module_rows}

-- the tables, at another place
abbrev relent : ModuleRows → ModuleRows
relent t = record {
  modules = lent t.modules.now;
  symbols = lent t.symbols.now;
  site_lists = lent t.site_lists.now;
  site_rows = lent t.site_rows.now;
  line_lists = lent t.line_lists.now;
  line_rows = lent t.line_rows.now;
  files = lent t.files.now;
}

site_rows_same : (t : ModuleRows) (o : Option SiteList) → site_rows_of t o ≡ site_rows_of (relent t) o
site_rows_same t None = refl
site_rows_same t (Some l) = refl

line_rows_same : (t : ModuleRows) (o : Option LineList) → line_rows_of t o ≡ line_rows_of (relent t) o
line_rows_same t None = refl
line_rows_same t (Some l) = refl

module_same : (t : ModuleRows) (m : ModuleRow) → module_of t m ≡ module_of (relent t) m
module_same t m = λ i. record {
  symbols = part t.symbols.now m.symbols;
  symbols_end = m.symbols_end;
  extras = m.extras;
  site_rows = λ site start. site_rows_same t (at site_rank (site ∷ offset_rank start) (part t.site_lists.now m.site_lists)) i;
  line_rows = λ start. line_rows_same t (at line_rank (offset_rank start) (part t.line_lists.now m.line_lists)) i;
  file = λ number. option_map (λ f. f.name) (at file_rank (number ∷ []) (part t.files.now m.files));
}

content_same : (t : ModuleRows) (o : Option ModuleRow) → row_content t o ≡ row_content (relent t) o
content_same t None = refl
content_same t (Some m) = ap (content_of m.state) (module_same t m)

relent_means : (t : ModuleRows) → modules_of t ≡ modules_of (relent t)
relent_means t = λ i. record { count = length t.modules.now; at = λ k. content_same t (slice_get t.modules.now k) i }

relent_modules : (t : ModuleRows) (k : ℕ) (ms : List ModuleRow) → bad_modules t k ms ≡ bad_modules (relent t) k ms
relent_modules t k [] = refl
relent_modules t k (m ∷ ms) = ap (option_or (bad_module t k m)) (relent_modules t (k + 1) ms)

relent_bad : (text : List ℕ) (t : ModuleRows) → bad_row text t ≡ bad_row text (relent t)
relent_bad text t = rw (relent_modules t 0 t.modules.now)

module _ (t : ModuleRows) (d : Description)
    (modules : t.modules.now ≡ vec_items d.modules.modules)
    (symbols : t.symbols.now ≡ vec_items d.modules.parts.symbols)
    (site_lists : t.site_lists.now ≡ vec_items d.modules.parts.sites.lists)
    (site_rows : t.site_rows.now ≡ vec_items d.modules.parts.sites.rows)
    (line_lists : t.line_lists.now ≡ vec_items d.modules.parts.lines.lists)
    (line_rows : t.line_rows.now ≡ vec_items d.modules.parts.lines.rows)
    (files : t.files.now ≡ vec_items d.modules.parts.files) where
  held : relent t ≡ module_rows d
  held = λ i. record {
    modules = lent (modules i);
    symbols = lent (symbols i);
    site_lists = lent (site_lists i);
    site_rows = lent (site_rows i);
    line_lists = lent (line_lists i);
    line_rows = lent (line_rows i);
    files = lent (files i);
  }

  pub held_means : modules_of t ≡ modules_of (module_rows d)
  held_means = relent_means t ∙ ap modules_of held

  pub held_bad : (text : List ℕ) → bad_row text t ≡ bad_row text (module_rows d)
  held_bad text = relent_bad text t ∙ ap (bad_row text) held
