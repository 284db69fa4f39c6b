-- The written form of varints and fields (Protocol Buffers encoding, "Base 128 Varints" and "Message Structure").
use Rattle.std.specs.Prelude.{ℕ, zero, suc, ◌+◌, ◌*◌, ◌/◌, ◌%◌, List, [], ◌∷◌, ◌++◌, length, nat_lt, if◌then◌else◌}

-- groups of seven bits, the least first; so many bytes may say that more follows
unfoldable pub shortest_within : ℕ → ℕ → List ℕ
shortest_within zero n = n ∷ []
shortest_within (suc more) n = if nat_lt n 128 then n ∷ [] else (n % 128 + 128) ∷ shortest_within more (n / 128)

-- the shortest varint of a number of 64 bits
unfoldable pub shortest : ℕ → List ℕ
shortest n = shortest_within 9 n

-- the key of a field number under a wire type
abbrev pub key : ℕ → ℕ → List ℕ
key number wire = shortest (8 * number + wire)

-- a field of wire type 2: its key, its length and its bytes
abbrev pub bytes_field : ℕ → List ℕ → List ℕ
bytes_field number bytes = key number 2 ++ (shortest (length bytes) ++ bytes)

-- a field of wire type 0
abbrev pub number_field : ℕ → ℕ → List ℕ
number_field number value = key number 0 ++ shortest value
