-- What a name reads as in a text. Assumes nothing.
use Rattle.std.specs.Prelude.{ℕ, ◌+◌, cond, List, length, take, drop, Some, None, Option, nat_le}
use Rattle.base.specs.declared.image.TextPart.{TextPart}
use Rattle.procedures.specs.declared.name.NameRow.{NameRow}
use Rattle.procedures.specs.declared.name.NameRow.TheVariants.{None as NoRow, Raw as RawRow, Typed as TypedRow, Id as IdRow}
use Rattle.procedures.specs.declared.name.Name.{Name}
use Rattle.procedures.specs.declared.name.Name.TheVariants.{None as NoName, Raw, Typed, Id}

-- the bytes of a part, unless it lies outside the text
abbrev pub bytes_of : List ℕ → TextPart → Option (List ℕ)
bytes_of text p = cond (nat_le (p.start + p.length) (length text)) (Some (take p.length (drop p.start text))) None

-- none; raw bytes; bytes with module and type; or module and inlinee
pub data Spelling : Type 0 where
  nameless : Spelling
  raw : List ℕ → Spelling
  typed : List ℕ → ℕ → ℕ → Spelling
  id : ℕ → ℕ → Spelling

abbrev pub spelled : Name → Spelling
spelled NoName = nameless
spelled (Raw s) = raw s.now
spelled (Typed s m t) = typed s.now m t
spelled (Id m i) = id m i

abbrev read : (List ℕ → Spelling) → Option (List ℕ) → Spelling
read f None = nameless
read f (Some bytes) = f bytes

-- what a row's name reads as
abbrev pub name_of : List ℕ → NameRow → Spelling
name_of text NoRow = nameless
name_of text (RawRow p) = read raw (bytes_of text p)
name_of text (TypedRow p m t) = read (λ bytes. typed bytes m t) (bytes_of text p)
name_of text (IdRow m i) = id m i
