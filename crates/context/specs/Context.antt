-- What a context holds. Assumes nothing.
use Rattle.std.specs.Prelude.{List, length, take, Ok}
use Rattle.base.specs.declared.context.KnownStart.{KnownStart}
use Rattle.base.specs.declared.context.Contribution.{Contribution}
use Rattle.image.specs.Image.{Image}
use Rattle.building.specs.Outcome.{Built, Outcome}
use Rattle.building.specs.Filling.{Untouched}
use Rattle.sections.specs.Used.{used}
use Rattle.context.specs.declared.tables.Context.{Context}

abbrev pub meaning : Context → Built
meaning c = record { sections = used c.sections; starts = take c.starts.count c.starts.rows.now; contributions = take c.contributions.count c.contributions.rows.now }

-- a context built from an image, on tables that held these rows: it holds what building gives, and the rows past that stay
pub record Granted (i : Image) (starts : List KnownStart) (contributions : List Contribution) (c : Context) : Type 0 where
  pub outcome : Outcome i (length starts) (length contributions) (Ok (meaning c))
  pub starts_rest : Untouched starts c.starts.rows.now c.starts.count
  pub contributions_rest : Untouched contributions c.contributions.rows.now c.contributions.count
