-- An example image. Assumes nothing.
use Rattle.std.specs.Prelude.{ℕ, zero, suc, true, false, cond, List, [], ◌∷◌, Some, None, ◌==◌}
use Rattle.order.specs.Rank.{same}
use Rattle.base.specs.Rows.{offset_rank}
use Rattle.base.specs.Lists.{clean}
use Rattle.base.specs.declared.image.SectionOffset.{SectionOffset}
use Rattle.base.specs.declared.image.TextPart.{TextPart}
use Rattle.image.specs.Image.{Image}
use Rattle.provider.specs.Modules.{Module, Content, absent, present, Modules}
use Rattle.provider.specs.declared.symbols.SymbolRecord.{SymbolRecord}
use Rattle.provider.specs.declared.symbols.Symbol.TheVariants.{Procedure, SeparatedCode, InlineSite, Other}
use Rattle.provider.specs.declared.symbols.SiteRow.{SiteRow}

-- "?ab"
abbrev pub text : List ℕ
text = 63 ∷ 97 ∷ 98 ∷ []

-- "?a", "b" and "a"
abbrev pub name_qa : TextPart
name_qa = record { start = 0; length = 2 }

abbrev pub name_b : TextPart
name_b = record { start = 2; length = 1 }

abbrev pub name_a : TextPart
name_a = record { start = 1; length = 1 }

abbrev pub place : ℕ → ℕ → SectionOffset
place section offset = record { section = section; offset = offset }

abbrev pub image : Image
image = record {
  text = text;
  sections = record { address = 4096; size = 256; executable = true } ∷ record { address = 8192; size = 64; executable = false } ∷ [];
  symbols = record { offset = place 1 16; name = name_qa } ∷ record { offset = place 1 64; name = name_b } ∷ [];
  symbols_end = clean;
  contributions =
      record { offset = place 1 0; size = 32; «module» = 0 } ∷
      record { offset = place 1 32; size = 32; «module» = 0 } ∷
      record { offset = place 1 64; size = 64; «module» = 1 } ∷
      record { offset = place 2 0; size = 16; «module» = 0 } ∷ [];
  contributions_end = clean;
}

-- a procedure "a" with two inline sites, one within the other, and code of it that lies apart
abbrev pub records : List SymbolRecord
records =
    record { index = 4; symbol = Procedure (place 1 16) 8 100 0 name_a } ∷
    record { index = 40; symbol = InlineSite 7 90 } ∷
    record { index = 60; symbol = InlineSite 8 80 } ∷
    record { index = 80; symbol = Other } ∷
    record { index = 90; symbol = Other } ∷
    record { index = 100; symbol = Other } ∷
    record { index = 104; symbol = SeparatedCode (place 1 40) 8 120 (place 1 16) } ∷
    record { index = 120; symbol = Other } ∷ []

-- the rows of the two sites
abbrev pub site_rows : ℕ → List SiteRow
site_rows site =
    cond (site == 40) (record { offset = 16; length = Some 2; file = 1; line = 10 } ∷ [])
    (cond (site == 60) (record { offset = 18; length = Some 2; file = 2; line = 20 } ∷ []) [])

abbrev pub first_module : Module
first_module = record {
  symbols = records;
  symbols_end = clean;
  extras = clean;
  site_rows = λ site start. record { items = cond (same (offset_rank start) (offset_rank (place 1 16))) (site_rows site) []; ending = clean };
  line_rows = λ start. record { items = []; ending = clean };
  file = λ number. None;
}

abbrev pub at : ℕ → Content
at zero = present first_module
at (suc k) = absent

abbrev pub modules : Modules
modules = record { count = 2; at = at }
