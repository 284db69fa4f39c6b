-- Messages as tables: for each field number its kind (Protocol Buffers, language guide for proto3, "Scalar Value Types").
use Rattle.std.specs.Prelude.{ℕ, Bool, ◌&&◌, nat_lt, nat_le, ℤ, List}
use Rattle.bep_wire.specs.declared.field.TheConstants.{MAX_FIELD_NUMBER}

-- the kinds of one value
pub data Scalar : Type 0 where
  Int32 : Scalar
  Int64 : Scalar
  Uint32 : Scalar
  Uint64 : Scalar
  Enum : Scalar
  Boolean : Scalar
  Words : Scalar
  Octets : Scalar
  Digest : Scalar

-- rows by rising number: one value, one message, a list of texts or of messages
pub data Table : Type 0 where
  End : Table
  One : (number : ℕ) (kind : Scalar) (rows : Table) → Table
  Message : (number : ℕ) (inner : Table) (rows : Table) → Table
  Texts : (number : ℕ) (rows : Table) → Table
  Messages : (number : ℕ) (inner : Table) (rows : Table) → Table

-- each number is above the one before, and none above the greatest
abbrev pub rises : ℕ → Table → Bool
rises before End = nat_le before MAX_FIELD_NUMBER
rises before (One number kind rows) = nat_lt before number && rises number rows
rises before (Message number inner rows) = nat_lt before number && rises 0 inner && rises number rows
rises before (Texts number rows) = nat_lt before number && rises number rows
rises before (Messages number inner rows) = nat_lt before number && rises 0 inner && rises number rows

-- ---- what a message of a table is: the values of its rows, in order

-- signed numbers, numbers, flags, and the bytes of a text or of bytes
abbrev pub Val : Scalar → Type 0
Val Int32 = ℤ
Val Int64 = ℤ
Val Uint32 = ℕ
Val Uint64 = ℕ
Val Enum = ℤ
Val Boolean = Bool
Val Words = List ℕ
Val Octets = List ℕ
Val Digest = List ℕ

abbrev pub Values : Table → Type 0
Values End = Unit {0}
Values (One number kind rows) = Val kind × Values rows
Values (Message number inner rows) = Values inner × Values rows
Values (Texts number rows) = List (List ℕ) × Values rows
Values (Messages number inner rows) = List (Values inner) × Values rows

-- ---- tables as they are written down: rows, one below the other

infixr 5 ◌▹◌
abbrev pub ◌▹◌ : (Table → Table) → Table → Table
row ▹ rows = row rows

infix 6 ◌is◌
abbrev pub ◌is◌ : ℕ → Scalar → Table → Table
◌is◌ number kind rows = One number kind rows

infix 6 ◌holds◌
abbrev pub ◌holds◌ : ℕ → Table → Table → Table
◌holds◌ number inner rows = Message number inner rows

infix 6 ◌lists◌
abbrev pub ◌lists◌ : ℕ → Table → Table → Table
◌lists◌ number inner rows = Messages number inner rows

abbrev pub texts : ℕ → Table → Table
texts number rows = Texts number rows
