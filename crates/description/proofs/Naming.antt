-- Quoted names lie within the text. Assumes nothing.
use Rattle.std.proofs.Common.{◌≡◌, ℕ, List, [], ◌∷◌, ◌++◌, length, Some, None, Ok, Option, IfSome, subst, arith, rules, length-append}
use Rattle.std.proofs.ByRecursion.{All-weaker, All-push}
use Rattle.std.specs.List.{AllByRecursion}
use Rattle.base.specs.declared.image.TextPart.{TextPart}
use Rattle.provider.specs.declared.symbols.Symbol.{Symbol}
use Rattle.provider.specs.declared.symbols.Symbol.TheVariants.{Procedure, Thunk}
use Rattle.words.specs.Quotes.{unquoted}
use Rattle.description.specs.declared.row.ImageRow.{ImageRow}
use Rattle.description.specs.declared.row.ImageRow.TheVariants.{Public}
use Rattle.description.specs.declared.row.ModulePart.{ModulePart}
use Rattle.description.specs.declared.row.ModulePart.TheVariants.{Symbol as SymbolPart, SymbolsEnd, Extras, File}
use Rattle.description.specs.declared.row.Row.{Row}
use Rattle.description.specs.declared.row.Row.TheVariants.{Text, Image, Module, Part}
use Rattle.description.specs.Drafts.{ImageLists, PartLists, Lists, nothing, image_added, part_pushed, row_added, row_said, written_said, line_said}
use Rattle.description.specs.Lists.{short, pushed, appended}
use Rattle.description.specs.Reading.{Written, line_row}
use Rattle.description.specs.Sound.{QuotingLine}
use Rattle.description.specs.declared.mistake.Mistake.TheVariants.{BadEscape, TextTooLong, TooManyRows}
use Rattle.std.specs.Option.{ok_or}
use Rattle.description.specs.Names.{SymbolName, ImageName, PartName, RowName, Quoting, Within, Named}
use Rattle.description.specs.Rows.{symbol_named, named}
use Rattle.description.proofs.Growing.{module-grown}
use Rattle.description.proofs.Steps.{and_then_ok, at_ok, at_mapped, short-same}

-- what a symbol, an image and a module's part have of names
symbol_weaker : (P Q : TextPart → Type 0) → ((n : TextPart) → P n → Q n) → (s : Symbol) → SymbolName P s → SymbolName Q s
symbol_weaker P Q f (Procedure a b c d n) h = f n h
symbol_weaker P Q f (Thunk a b c n) h = f n h
symbol_weaker P Q f s h = tt

row_weaker : (P Q : TextPart → Type 0) → ((n : TextPart) → P n → Q n) → (r : Row) → RowName P r → RowName Q r
row_weaker P Q f (Image (Public s)) h = f s.name h
row_weaker P Q f (Part (SymbolPart s)) h = symbol_weaker P Q f s.symbol h
row_weaker P Q f (Part (File s)) h = f s.name h
row_weaker P Q f r h = tt

symbol_bears : (P : TextPart → Type 0) (n : TextPart) → P n → (s : Symbol) → SymbolName P (symbol_named n s)
symbol_bears P n h (Procedure a b c d m) = h
symbol_bears P n h (Thunk a b c m) = h
symbol_bears P n h s = tt

-- a row bears the name that it is given
row_bears : (P : TextPart → Type 0) (n : TextPart) → P n → (r : Row) → RowName P (named n r)
row_bears P n h (Image (Public s)) = h
row_bears P n h (Part (SymbolPart s)) = symbol_bears P n h s.symbol
row_bears P n h (Part (File s)) = h
row_bears P n h r = tt

-- one row more of which P holds
pushed_all : {X : Type 0} (P : X → Type 0) (xs : List X) (x : X) (ys : List X) → pushed xs x ≡ Ok ys → AllByRecursion P xs → P x → AllByRecursion P ys
pushed_all P xs x ys e h p = subst (AllByRecursion P) (short-same TooManyRows (xs ++ x ∷ []) ys e) (All-push P xs x h p)

record NamedParts (P : TextPart → Type 0) (a : PartLists) : Type 0 where
  symbols : AllByRecursion (λ s. SymbolName P s.symbol) a.symbols
  files : AllByRecursion (λ f. P f.name) a.files

image-names : (P : TextPart → Type 0) (r : ImageRow) (a b : ImageLists) → image_added r a ≡ Ok b → ImageName P r → AllByRecursion (λ s. P s.name) a.symbols → AllByRecursion (λ s. P s.name) b.symbols
image-names P (Public s) a b e n h = at_mapped (λ z. AllByRecursion (λ s. P s.name) z.symbols) _ _ b e (λ x p. pushed_all (λ s. P s.name) a.symbols s x p h n)
image-names P r a b e n h = at_mapped (λ z. AllByRecursion (λ s. P s.name) z.symbols) _ _ b e (λ x p. h)

part-names : (P : TextPart → Type 0) (p : ModulePart) (a b : PartLists) → part_pushed p a ≡ Ok b → PartName P p → NamedParts P a → NamedParts P b
part-names P (SymbolPart r) a b e n h = at_mapped (NamedParts P) _ _ b e (λ x p. record { symbols = pushed_all (λ s. SymbolName P s.symbol) a.symbols r x p h.symbols n; files = h.files })
part-names P (File r) a b e n h = at_mapped (NamedParts P) _ _ b e (λ x p. record { symbols = h.symbols; files = pushed_all (λ f. P f.name) a.files r x p h.files n })
part-names P (SymbolsEnd r) a b e n h = at_ok (NamedParts P) a b e h
part-names P (Extras r) a b e n h = at_ok (NamedParts P) a b e h
part-names P p a b e n h = at_mapped (NamedParts P) _ _ b e (λ x q. record { symbols = h.symbols; files = h.files })

row_names : (r : Row) (a b : Lists) → row_added r a ≡ Ok b → RowName (Within a.text) r → Named a → Named b
row_names Text a b e n h = at_ok Named a b e h
row_names (Image r) a b e n h = at_mapped Named _ _ b e (λ x p. let k = image-names (Within a.text) r a.image x p n h.publics in search rules)
row_names (Module s) a b e n h = at_mapped Named _ _ b e (λ x p. at_mapped (λ z. Named (record a { modules = z })) _ _ x p (λ ms d. search rules))
row_names (Part s) a b e n h =
    at_mapped Named _ _ b e (λ x p. let g = module-grown s a.modules x p in let k = part-names (Within a.text) s a.modules.parts x.parts g.1 n (search rules) in search rules)
row_names r a b e n h = at_mapped Named _ _ b e (λ x p. search rules)

-- names stay within a text that grows
longer : (a : Lists) (bs : List ℕ) → Named a → Named (record a { text = a.text ++ bs })
longer a bs h =
    let more : (n : TextPart) → Within a.text n → Within (a.text ++ bs) n = λ n w. omega (arith, length-append a.text bs) in
    record {
      publics = All-weaker (λ s. Within a.text s.name) (λ s. Within (a.text ++ bs) s.name) (λ s. more s.name) a.image.symbols h.publics;
      symbols = All-weaker (λ s. SymbolName (Within a.text) s.symbol) (λ s. SymbolName (Within (a.text ++ bs)) s.symbol) (λ s. symbol_weaker (Within a.text) (Within (a.text ++ bs)) more s.symbol) a.modules.parts.symbols h.symbols;
      files = All-weaker (λ f. Within a.text f.name) (λ f. Within (a.text ++ bs) f.name) (λ f. more f.name) a.modules.parts.files h.files;
    }

-- what is appended lies within the text
text-names : (a : Lists) (raw : List ℕ) (q : List ℕ × TextPart) → appended raw a.text ≡ Ok q → Named a → Within q.0 q.1 × Named (record a { text = q.0 })
text-names a raw q e h =
    and_then_ok _ (ok_or (unquoted raw) BadEscape) q e (λ bs _ f. at_mapped (λ (z : List ℕ × TextPart). Within z.0 z.1 × Named (record a { text = z.0 })) _ (short TextTooLong (a.text ++ bs)) q f (λ new p. subst (λ (t : List ℕ). Within t (record { start = length a.text; length = length bs }) × Named (record a { text = t })) (short-same TextTooLong (a.text ++ bs) new p) (omega (arith, length-append a.text bs), longer a bs h)))

quoted_names : (o : Option (List ℕ)) (r : Row) (a b : Lists) → row_said r o a ≡ Ok b → Quoting (record { row = r; quoted = o }) → Named a → Named b
quoted_names None r a b e n h = row_names r a b e (row_weaker (λ _. ⊥) (Within a.text) (λ _ z. absurd z) r n) h
quoted_names (Some raw) r a b e n h =
    and_then_ok _ (appended raw a.text) b e (λ q p f. let k = text-names a raw q p h in row_names (named q.1 r) (record a { text = q.0 }) b f (row_bears (Within q.0) q.1 k.0 r) k.1)

written_names : (o : Option Written) (a b : Lists) → written_said o a ≡ Ok b → IfSome o Quoting → Named a → Named b
written_names None a b e n h = at_ok Named a b e h
written_names (Some w) a b e n h = quoted_names w.quoted w.row a b e n h

quotes : (line : List ℕ) (o : Option Written) → line_row line ≡ Ok o → QuotingLine line → IfSome o Quoting
quotes line None e q = tt
quotes line (Some w) e q = q w e

pub line-names : (line : List ℕ) (a b : Lists) → line_said line a ≡ Ok b → QuotingLine line → Named a → Named b
unfolding line_said
line-names line a b e n h = and_then_ok _ (line_row line) b e (λ o p f. written_names o a b f (quotes line o p n) h)

pub nothing-names : Named nothing
nothing-names = record { publics = tt; symbols = tt; files = tt }
