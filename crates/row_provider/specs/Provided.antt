-- What a row provider means. Assumes nothing.
use Rattle.image.specs.Image.{Image}
use Rattle.provider.specs.Modules.{Modules}
use Rattle.rows.specs.Source.{meaning}
use Rattle.modules.specs.Meaning.{modules_of}
use Rattle.row_provider.specs.declared.RowProvider.{RowProvider}

abbrev pub provided_image : RowProvider → Image
provided_image p = meaning p.image

abbrev pub provided_modules : RowProvider → Modules
provided_modules p = modules_of p.modules
