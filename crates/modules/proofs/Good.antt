-- Tables of which no row is bad. Assumes nothing.
use Rattle.std.proofs.Common.{◌≡◌, ℕ, zero, suc, ◌+◌, ◌^◌, ◌<◌, ◌≤◌, Bool, true, false, cond, leb, List, [], ◌∷◌, length, drop, Some, None, Option, sym, refl, ap, ◌∙◌, subst, ⊎_elim, arith, lit<}
use Rattle.std.proofs.lemmas.Bool.{and_parts, cond-true, cond-false, cases_Bool, leb-true}
use Rattle.std.proofs.lemmas.Bool.Decides.{nat_tests}
use Rattle.std.proofs.lemmas.List.{length-take}
use Rattle.std.proofs.lemmas.Option.{slice_get_past}
use Rattle.std.proofs.ByRecursion.{All-take, All-drop, All-weaker}
use Rattle.std.specs.Option.{option_or}
use Rattle.std.specs.List.{AllByRecursion, slice_get}
use Rattle.base.specs.Lists.{most_items}
use Rattle.base.specs.Rows.{offset_rank}
use Rattle.image.specs.Checks.{name_within, crowded, outside}
use Rattle.order.specs.Rank.{before, same, first, Rises}
use Rattle.order.proofs.Ranks.{before_trans}
use Rattle.order.proofs.Rows.{pairwise_cons, pairwise_from, in_order_from_rises}
use Rattle.base.specs.declared.refusal.RowTable.{RowTable}
use Rattle.base.specs.declared.refusal.RowTable.TheVariants.{Modules, Records, SiteLists, LineLists, Files}
use Rattle.provider.specs.declared.symbols.ModuleState.{ModuleState}
use Rattle.provider.specs.declared.symbols.ModuleState.TheVariants.{Absent, Broken, Present}
use Rattle.provider.specs.Modules.{Module, Regular, RegularModule, content, index_rank, most_modules, nothing, state_of}
use Rattle.provider.specs.Names.{symbol_within}
use Rattle.provider.proofs.Regular.{nothing_regular}
use Rattle.modules.specs.declared.tables.RowRange.{RowRange}
use Rattle.modules.specs.declared.tables.ModuleRow.{ModuleRow}
use Rattle.modules.specs.declared.tables.SiteList.{SiteList}
use Rattle.modules.specs.declared.tables.LineList.{LineList}
use Rattle.modules.specs.declared.tables.ModuleRows.{ModuleRows}
use Rattle.modules.specs.Ranks.{site_rank, line_rank, file_rank}
use Rattle.modules.specs.Meaning.{part, site_rows_of, line_rows_of, module_of, content_of, row_content, modules_of, no_module, AnswersFor}
use Rattle.modules.specs.BadRows.{rows_within, unrisen, part_unrisen, parts_within, parts_unrisen, bad_module, bad_modules, bad_row}

or_none : {X : Type 0} (a b : Option X) → option_or a b ≡ None → (a ≡ None) × (b ≡ None)
or_none None b h = (refl, h)
or_none (Some x) b h = cc

-- a test whose failing is refused
test_none : {X : Type 0} (b : Bool) (o : Option X) (x : X) → cond b o (Some x) ≡ None → (b ≡ true) × (o ≡ None)
test_none true o x h = (refl, h)
test_none false o x h = cc

-- a table that is not refused for its count
few_enough : {X : Type 0} (table : RowTable) (most : ℕ) (xs : List X) → crowded table most xs ≡ None → length xs ≤ most
few_enough table most xs h = grind (arith, nat_tests)

all_within : {X : Type 0} (within : ℕ → X → Bool) (table : RowTable) (long k : ℕ) (xs : List X) → outside within table long k xs ≡ None → AllByRecursion (λ x. within long x ≡ true) xs
all_within within table long k [] h = tt
all_within within table long k (x ∷ xs) h =
    let p = test_none (within long x) (outside within table long (k + 1) xs) _ h in
    (p.0, all_within within table long (k + 1) xs p.1)

-- where each row comes after its neighbour, it comes after all before
all_rises : {X : Type 0} (rank : X → List ℕ) (table : RowTable) (k : ℕ) (xs : List X) → unrisen rank table k xs ≡ None → Rises rank xs
all_rises rank table k [] h = refl
all_rises rank table k (x ∷ []) h = refl
all_rises {X} rank table k (x ∷ y ∷ ys) h =
    let Before : X → X → Bool = λ a b. before (rank a) (rank b) in
    let p = test_none (before (rank x) (rank y)) (unrisen rank table (k + 1) (y ∷ ys)) _ h in
    let rest : Rises rank (y ∷ ys) = all_rises rank table (k + 1) (y ∷ ys) p.1 in
    let later = pairwise_cons (λ a b. before (rank a) (rank b)) y ys rest in
    pairwise_from (λ a b. before (rank a) (rank b)) x (y ∷ ys)
    (p.0, All-weaker (λ z. before (rank y) (rank z) ≡ true) (λ z. before (rank x) (rank z) ≡ true) (λ z b. before_trans (rank x) (rank y) (rank z) p.0 b) ys later.0)
    rest

-- what stands in the parts of a module that is not refused
pub record GoodModule (t : ModuleRows) (m : ModuleRow) : Type 0 where
  pub few_symbols : length (part t.symbols.now m.symbols) < 2 ^ 32
  pub symbols : Rises index_rank (part t.symbols.now m.symbols)
  pub site_lists : Rises site_rank (part t.site_lists.now m.site_lists)
  pub line_lists : Rises line_rank (part t.line_lists.now m.line_lists)
  pub files : Rises file_rank (part t.files.now m.files)

few-rows : {X : Type 0} (long : ℕ) (rows : List X) (r : RowRange) → rows_within long r ≡ true → length (part rows r) < 2 ^ 32
few-rows long rows r h =
    let p = and_parts (leb (r.first + r.count) long) (leb r.count most_items) h in
    let few : r.count ≤ most_items = leb-true r.count most_items p.1 in
    let e = length-take r.count (drop r.first rows) in
    omega arith

good_module : (t : ModuleRows) (k : ℕ) (m : ModuleRow) → bad_module t k m ≡ None → GoodModule t m
good_module t k m h =
    let p = test_none (parts_within t m) (parts_unrisen t m) _ h in
    let w = and_parts _ _ p.0 in
    let a = or_none (part_unrisen index_rank Records t.symbols.now m.symbols) _ p.1 in
    let b = or_none (part_unrisen site_rank SiteLists t.site_lists.now m.site_lists) _ a.1 in
    let c = or_none (part_unrisen line_rank LineLists t.line_lists.now m.line_lists) _ b.1 in
    record {
      few_symbols = few-rows (length t.symbols.now) t.symbols.now m.symbols w.0;
      symbols = all_rises index_rank Records m.symbols.first (part t.symbols.now m.symbols) a.0;
      site_lists = all_rises site_rank SiteLists m.site_lists.first (part t.site_lists.now m.site_lists) b.0;
      line_lists = all_rises line_rank LineLists m.line_lists.first (part t.line_lists.now m.line_lists) c.0;
      files = all_rises file_rank Files m.files.first (part t.files.now m.files) c.1;
    }

good_at : (t : ModuleRows) (k : ℕ) (ms : List ModuleRow) → bad_modules t k ms ≡ None → (j : ℕ) (m : ModuleRow) → slice_get ms j ≡ Some m → GoodModule t m
good_at t k [] h j m e = cc
good_at t k (n ∷ ms) h zero m e =
    let p = or_none (bad_module t k n) (bad_modules t (k + 1) ms) h in
    let same : n ≡ m = cc in
    subst (GoodModule t) same (good_module t k n p.0)
good_at t k (n ∷ ms) h (suc j) m e =
    let p = or_none (bad_module t k n) (bad_modules t (k + 1) ms) h in
    good_at t (k + 1) ms p.1 j m e

-- what the tables hold if no row is bad
pub record GoodRows (t : ModuleRows) : Type 0 where
  pub few : length t.modules.now ≤ most_modules
  pub site_lists : AllByRecursion (λ l. rows_within (length t.site_rows.now) l.rows ≡ true) t.site_lists.now
  pub line_lists : AllByRecursion (λ l. rows_within (length t.line_rows.now) l.rows ≡ true) t.line_lists.now
  pub each : (k : ℕ) (m : ModuleRow) → slice_get t.modules.now k ≡ Some m → GoodModule t m

pub good_rows : (text : List ℕ) (t : ModuleRows) → bad_row text t ≡ None → GoodRows t
good_rows text t h =
    let p = or_none (crowded Modules most_modules t.modules.now) _ h in
    let a = or_none (outside (λ long r. symbol_within long r.symbol) Records (length text) 0 t.symbols.now) _ p.1 in
    let b = or_none (outside (λ long f. name_within long f.name) Files (length text) 0 t.files.now) _ a.1 in
    let c = or_none (outside (λ long l. rows_within long l.rows) SiteLists (length t.site_rows.now) 0 t.site_lists.now) _ b.1 in
    let d = or_none (outside (λ long l. rows_within long l.rows) LineLists (length t.line_rows.now) 0 t.line_lists.now) _ c.1 in
    record {
      few = few_enough Modules most_modules t.modules.now p.0;
      site_lists = all_within (λ long l. rows_within long l.rows) SiteLists (length t.site_rows.now) 0 t.site_lists.now c.0;
      line_lists = all_within (λ long l. rows_within long l.rows) LineLists (length t.line_rows.now) 0 t.line_lists.now d.0;
      each = good_at t 0 t.modules.now d.1;
    }

-- what holds of all rows holds of the one that is found
found_all : {X : Type 0} (P : X → Type 0) (test : X → Bool) (xs : List X) (x : X) → AllByRecursion P xs → first test xs ≡ Some x → P x
found_all P test [] x a e = cc
found_all P test (y ∷ ys) x a e =
    ⊎_elim
    (λ b. let same : y ≡ x = (let f = cond-true (test y) (Some y) (first test ys) b in cc) in subst P same a.0)
    (λ b. found_all P test ys x a.1 (sym (cond-false (test y) (Some y) (first test ys) b) ∙ e))
    (cases_Bool (test y))

part_all : {X : Type 0} (P : X → Type 0) (xs : List X) (r : RowRange) → AllByRecursion P xs → AllByRecursion P (part xs r)
part_all P xs r a = All-take P r.count (drop r.first xs) (All-drop P r.first xs a)

few_site_rows : (t : ModuleRows) (o : Option SiteList) → ((l : SiteList) → o ≡ Some l → rows_within (length t.site_rows.now) l.rows ≡ true) → length (site_rows_of t o).items < 2 ^ 32
few_site_rows t None h = lit< tt
few_site_rows t (Some l) h = few-rows (length t.site_rows.now) t.site_rows.now l.rows (h l refl)

few_line_rows : (t : ModuleRows) (o : Option LineList) → ((l : LineList) → o ≡ Some l → rows_within (length t.line_rows.now) l.rows ≡ true) → length (line_rows_of t o).items < 2 ^ 32
few_line_rows t None h = lit< tt
few_line_rows t (Some l) h = few-rows (length t.line_rows.now) t.line_rows.now l.rows (h l refl)

module _ (t : ModuleRows) (g : GoodRows t) where
  regular_module : (m : ModuleRow) → GoodModule t m → RegularModule (module_of t m)
  regular_module m h = record {
    rises = h.symbols;
    few_symbols = h.few_symbols;
    few_site_rows = λ site start.
        few_site_rows t _
        (λ l e. found_all (λ l. rows_within (length t.site_rows.now) l.rows ≡ true) (λ l. same (site_rank l) (site ∷ offset_rank start)) (part t.site_lists.now m.site_lists) l (part_all _ t.site_lists.now m.site_lists g.site_lists) e);
    few_line_rows = λ start.
        few_line_rows t _
        (λ l e. found_all (λ l. rows_within (length t.line_rows.now) l.rows ≡ true) (λ l. same (line_rank l) (offset_rank start)) (part t.line_lists.now m.line_lists) l (part_all _ t.line_lists.now m.line_lists g.line_lists) e);
  }

  regular_content : (s : ModuleState) (m : Module) → RegularModule m → RegularModule (content (content_of s m))
  regular_content Absent m h = nothing_regular
  regular_content Broken m h = nothing_regular
  regular_content Present m h = h

  regular_row : (o : Option ModuleRow) → ((m : ModuleRow) → o ≡ Some m → GoodModule t m) → RegularModule (content (row_content t o))
  regular_row None h = nothing_regular
  regular_row (Some m) h = regular_content m.state (module_of t m) (regular_module m (h m refl))

-- tables of which no row is bad mean what a provider may mean
pub means_regular : (text : List ℕ) (t : ModuleRows) → bad_row text t ≡ None → Regular (modules_of t)
means_regular text t h =
    let g = good_rows text t h in
    record {
      few = g.few;
      past = λ k l. ap (row_content t) (slice_get_past t.modules.now k l);
      each = λ k. regular_row t g (slice_get t.modules.now k) (g.each k);
    }

means-nothing : (t : ModuleRows) (k : ℕ) → content ((modules_of t).at k) ≡ nothing → AnswersFor t k no_module
means-nothing t k e = record { means = e; site_lists = refl; line_lists = refl; files = refl }

pub none_answers : (t : ModuleRows) (k : ℕ) → None ≡ slice_get t.modules.now k → AnswersFor t k no_module
none_answers t k e = means-nothing t k (ap (λ o. content (row_content t o)) (sym e))

pub present_answers : (text : List ℕ) (t : ModuleRows) → bad_row text t ≡ None → (k : ℕ) (m : ModuleRow) → Some m ≡ slice_get t.modules.now k → m.state ≡ Present → AnswersFor t k m
present_answers text t h k m e s =
    let g = (good_rows text t h).each k m (sym e) in
    record {
      means = ap (λ o. content (row_content t o)) (sym e) ∙ ap (λ p. content (content_of p (module_of t m))) s;
      site_lists = in_order_from_rises site_rank (part t.site_lists.now m.site_lists) g.site_lists;
      line_lists = in_order_from_rises line_rank (part t.line_lists.now m.line_lists) g.line_lists;
      files = in_order_from_rises file_rank (part t.files.now m.files) g.files;
    }

state_kept : (s : ModuleState) (m : Module) → s ≡ state_of (content_of s m)
state_kept Absent m = refl
state_kept Broken m = refl
state_kept Present m = refl

pub state_at : (t : ModuleRows) (k : ℕ) (m : ModuleRow) → Some m ≡ slice_get t.modules.now k → m.state ≡ state_of ((modules_of t).at k)
state_at t k m e = state_kept m.state (module_of t m) ∙ ap (λ o. state_of (row_content t o)) e
