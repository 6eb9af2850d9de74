-- What a resolver answers, by its image, its modules, the context and the shelf. Assumes nothing.
use Rattle.std.specs.Prelude.{ℕ, List}
use Rattle.image.specs.Image.{Image}
use Rattle.provider.specs.Modules.{Modules}
use Rattle.context.specs.Context.{meaning}
use Rattle.context.specs.declared.tables.Context.{Context}
use Rattle.lookup.specs.Finding.{Found, find_function}
use Rattle.lookup.specs.Comparing.{Comparison, compare}
use Rattle.frames.specs.declared.frame.Frame.{Frame}
use Rattle.inlining.specs.Finding.{FoundFrames, find_frames}
use Rattle.shelf.specs.Shelf.{shelved}
use Rattle.shelf.specs.declared.shelf.Shelf.{Shelf}

abbrev pub found : Image → Modules → Context → ℕ → Shelf → Found
found i ms c a s = find_function i.text ms (meaning c) a (shelved s)

abbrev pub compared : Image → Modules → Context → ℕ → ℕ → Shelf → Comparison
compared i ms c a b s = compare i.text ms (meaning c) a b (shelved s)

abbrev pub framed : Image → Modules → Context → ℕ → List Frame → Shelf → FoundFrames
framed i ms c a table s = find_frames i.text ms (meaning c) a table (shelved s)
