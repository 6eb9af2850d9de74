-- What a row source means. Assumes nothing.
use Rattle.image.specs.Image.{Image}
use Rattle.rows.specs.Tables.{meaning_of}
use Rattle.rows.specs.declared.source.RowSource.{RowSource}

abbrev pub meaning : RowSource → Image
meaning s = meaning_of s.rows
