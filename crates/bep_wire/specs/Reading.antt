-- Reading as functions that compute: the value, and the bytes after it; or the fault. That they read what the
-- grammar says, and nothing else, is the law `one_reading`.
use Rattle.std.specs.Prelude.{Result, Ok, Err, ℕ, zero, suc, ◌+◌, ◌*◌, ◌/◌, ◌%◌, ◌^◌, ◌&&◌, List, [], ◌∷◌, length, take, drop, nat_lt, nat_le, if◌then◌else◌}
use Rattle.bep_wire.specs.declared.fault.WireFault.{WireFault}
use Rattle.bep_wire.specs.declared.field.TheConstants.{MAX_FIELD_NUMBER, MAX_VARINT_LEN}
use Rattle.bep_wire.specs.declared.fault.WireFault.TheVariants.{Truncated, LongVarint, BadKey, Group}
use Rattle.bep_wire.specs.Content.{Wire, VarintWire, EightWire, BytesWire, FourWire, GroupWire, NoWire, wire_of, Content, Number, Eight, Bytes, Four, Item}

infixl 10 ◌>>=◌
abbrev pub ◌>>=◌ : {A B : Type 0} → Result A WireFault → (A → Result B WireFault) → Result B WireFault
(Ok x) >>= f = f x
(Err e) >>= f = Err e

-- groups of seven bits, the least first; so many bytes may come
unfoldable pub groups_at : ℕ → List ℕ → Result (ℕ × List ℕ) WireFault
groups_at zero bytes = Err LongVarint
groups_at (suc left) [] = Err Truncated
groups_at (suc left) (b ∷ bytes) = if nat_lt b 128 then Ok (b % 128, bytes) else (groups_at left bytes >>= λ x. Ok (b % 128 + 128 * x.0, x.1))

unfoldable pub varint_at : List ℕ → Result (ℕ × List ℕ) WireFault
varint_at bytes = groups_at MAX_VARINT_LEN bytes >>= λ x. Ok (x.0 % 2 ^ 64, x.1)

unfoldable pub piece_at : ℕ → List ℕ → Result (List ℕ × List ℕ) WireFault
piece_at n bytes = if nat_lt (length bytes) n then Err Truncated else Ok (take n bytes, drop n bytes)

-- what is held, the bytes from where it is held, and the bytes after it
unfoldable pub content_at : Wire → List ℕ → Result (Content × List ℕ × List ℕ) WireFault
content_at VarintWire bytes = varint_at bytes >>= λ x. Ok (Number x.0, bytes, x.1)
content_at EightWire bytes = piece_at 8 bytes >>= λ x. Ok (Eight x.0, bytes, x.1)
content_at BytesWire bytes = varint_at bytes >>= λ n. piece_at n.0 n.1 >>= λ x. Ok (Bytes x.0, n.1, x.1)
content_at FourWire bytes = piece_at 4 bytes >>= λ x. Ok (Four x.0, bytes, x.1)
content_at GroupWire bytes = Err Group
content_at NoWire bytes = Err BadKey

unfoldable pub field_at : List ℕ → Result (Item × List ℕ × List ℕ) WireFault
field_at bytes = do
  key ← varint_at bytes
  if nat_lt 0 (key.0 / 8) && nat_le (key.0 / 8) MAX_FIELD_NUMBER
      then (content_at (wire_of (key.0 % 8)) key.1 >>= λ x. Ok (record { number = key.0 / 8; content = x.0 }, x.1, x.2))
      else Err BadKey
