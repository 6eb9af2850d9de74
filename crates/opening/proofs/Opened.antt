-- What a layer over the rows of a description means. Assumes nothing.
use Rattle.std.proofs.Common.{◌≡◌, ◌∙◌, [], Some, vec_items, ap}
use Rattle.hiding.specs.declared.Hiding.{Hiding}
use Rattle.hiding.specs.Hidden.{hide, with_each}
use Rattle.hiding.specs.Layer.{below, hidden}
use Rattle.hiding.proofs.Several.{hide_each}
use Rattle.modules.specs.Meaning.{modules_of}
use Rattle.row_provider.specs.declared.RowProvider.{RowProvider}
use Rattle.row_provider.specs.Provided.{provided_modules}
use Rattle.description.specs.declared.Description.{Description}
use Rattle.opening.specs.Opening.{module_rows, described_modules}

pub opened_means : (d : Description) (layer : Hiding RowProvider) → provided_modules (below layer) ≡ modules_of (module_rows d) → with_each (vec_items d.hidden) [] ≡ Some (hidden layer) → hide (hidden layer) (provided_modules (below layer)) ≡ described_modules d
opened_means d layer rows all =
    hide_each (vec_items d.hidden) (hidden layer) (provided_modules (below layer)) all ∙ ap (hide (vec_items d.hidden)) rows
