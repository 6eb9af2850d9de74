-- What a module provider means besides its image. Assumes nothing.
use Rattle.std.specs.Prelude.{◌≡◌, ℕ, ◌^◌, ◌<◌, ◌≤◌, List, [], ◌∷◌, length, None, Option}
use Rattle.order.specs.Rank.{Rises}
use Rattle.base.specs.declared.image.SectionOffset.{SectionOffset}
use Rattle.base.specs.declared.image.TextPart.{TextPart}
use Rattle.base.specs.Lists.{Ending, clean}
use Rattle.provider.specs.declared.symbols.ModuleState.{ModuleState}
use Rattle.provider.specs.declared.symbols.ModuleState.TheVariants.{Absent, Broken, Present}
use Rattle.provider.specs.declared.symbols.SymbolRecord.{SymbolRecord}
use Rattle.provider.specs.declared.symbols.SiteRow.{SiteRow}
use Rattle.provider.specs.declared.symbols.LineRow.{LineRow}

-- a list with its ending
pub record Listed (X : Type 0) : Type 0 where
  pub items : List X
  pub ending : Ending

abbrev pub none_listed : {X : Type 0} → Listed X
none_listed = record { items = []; ending = clean }

-- what a present module means; site rows are told by the index of the site's record and the offset walked from
pub record Module : Type 0 where
  pub symbols : List SymbolRecord
  pub symbols_end : Ending
  pub extras : Ending
  pub site_rows : ℕ → SectionOffset → Listed SiteRow
  pub line_rows : SectionOffset → Listed LineRow
  pub file : ℕ → Option TextPart

abbrev pub nothing : Module
nothing = record {
  symbols = [];
  symbols_end = clean;
  extras = clean;
  site_rows = λ site start. none_listed;
  line_rows = λ start. none_listed;
  file = λ number. None;
}

pub data Content : Type 0 where
  absent : Content
  broken : Content
  present : Module → Content

pub record Modules : Type 0 where
  pub count : ℕ
  pub at : ℕ → Content

abbrev pub state_of : Content → ModuleState
state_of absent = Absent
state_of broken = Broken
state_of (present m) = Present

-- what is asked of a module that is not present is empty and clean
abbrev pub content : Content → Module
content absent = nothing
content broken = nothing
content (present m) = m

abbrev pub index_rank : SymbolRecord → List ℕ
index_rank r = r.index ∷ []

pub record RegularModule (m : Module) : Type 0 where
  pub rises : Rises index_rank m.symbols
  pub few_symbols : length m.symbols < 2 ^ 32
  pub few_site_rows : (site : ℕ) (start : SectionOffset) → length (m.site_rows site start).items < 2 ^ 32
  pub few_line_rows : (start : SectionOffset) → length (m.line_rows start).items < 2 ^ 32

-- a module's number has 16 bits
abbrev pub most_modules : ℕ
most_modules = 65536

pub record Regular (ms : Modules) : Type 0 where
  pub few : ms.count ≤ most_modules
  pub past : (k : ℕ) → ms.count ≤ k → ms.at k ≡ absent
  pub each : (k : ℕ) → RegularModule (content (ms.at k))
