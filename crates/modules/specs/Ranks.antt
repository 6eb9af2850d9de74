-- The keys by which the rows of a part are in order. Assumes nothing.
use Rattle.std.specs.Prelude.{ℕ, List, [], ◌∷◌}
use Rattle.base.specs.Rows.{offset_rank}
use Rattle.modules.specs.declared.tables.SiteList.{SiteList}
use Rattle.modules.specs.declared.tables.LineList.{LineList}
use Rattle.modules.specs.declared.tables.FileRow.{FileRow}

abbrev pub site_rank : SiteList → List ℕ
site_rank l = l.site ∷ offset_rank l.start

abbrev pub line_rank : LineList → List ℕ
line_rank l = offset_rank l.start

abbrev pub file_rank : FileRow → List ℕ
file_rank f = f.number ∷ []
