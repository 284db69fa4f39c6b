-- What is read is in the grammar, and so is each fault.
use Rattle.std.proofs.Common.{◌≡◌, ◌⊎◌, inl, inr, ℕ, zero, suc, ◌+◌, ◌*◌, ◌/◌, ◌%◌, ◌^◌, ◌<◌, ◌≤◌, ltb, leb, cond, ◌&&◌, List, [], ◌∷◌, ◌++◌, length, take, Result, Ok, Err, refl, sym, ap, subst, ◌∙◌, arith, append_assoc}
use Rattle.std.proofs.lemmas.Bool.{cases_lt, lt-ltb, le-ltb, le-leb, lt-leb}
use Rattle.std.proofs.lemmas.List.{take-append-drop, length-take-le}
use Rattle.bep_wire.specs.declared.fault.WireFault.{WireFault}
use Rattle.bep_wire.specs.declared.field.TheConstants.{MAX_FIELD_NUMBER}
use Rattle.bep_wire.specs.declared.fault.WireFault.TheVariants.{Truncated, LongVarint, BadKey, Group}
use Rattle.bep_wire.specs.Content.{Wire, VarintWire, EightWire, BytesWire, FourWire, GroupWire, NoWire, wire_of, Content, Number, Eight, Bytes, Four, Item}
use Rattle.bep_wire.specs.Reading.{◌>>=◌, groups_at, varint_at, piece_at, content_at, field_at}
use Rattle.bep_wire.specs.Grammar.{IsSpelling, spelled, IsVarint, AllGoOn, NoVarint, Holds, HoldsNothing, IsNumber, IsField, IsKeyAlone}

-- ---- groups

abbrev pub NoGroups : ℕ → List ℕ → WireFault → Type 0
NoGroups n bytes Truncated = AllGoOn bytes × (length bytes < n)
NoGroups n bytes LongVarint = AllGoOn (take n bytes) × (n ≤ length bytes)
NoGroups n bytes BadKey = ⊥
NoGroups n bytes Group = ⊥

abbrev GroupsSound : ℕ → List ℕ → Result (ℕ × List ℕ) WireFault → Type 0
GroupsSound n bytes (Ok x) = (text : List ℕ) × (bytes ≡ text ++ x.1) × IsSpelling text × (length text ≤ n) × (x.0 ≡ spelled text)
GroupsSound n bytes (Err f) = NoGroups n bytes f

no_groups_more : (n b : ℕ) (bytes : List ℕ) (f : WireFault) → 128 ≤ b → NoGroups n bytes f → NoGroups (suc n) (b ∷ bytes) f
no_groups_more n b bytes Truncated high h = ((high, h.0), omega (arith, h.1))
no_groups_more n b bytes LongVarint high h = ((high, h.0), omega (arith, h.1))
no_groups_more n b bytes BadKey high h = h
no_groups_more n b bytes Group high h = h

groups_more : (n b : ℕ) (bytes : List ℕ) (r : Result (ℕ × List ℕ) WireFault) → 128 ≤ b → GroupsSound n bytes r → GroupsSound (suc n) (b ∷ bytes) (r >>= λ x. Ok (b % 128 + 128 * x.0, x.1))
groups_more n b bytes (Ok x) high h = (b ∷ h.0, ap (λ (l : List ℕ). b ∷ l) h.1, inr (high, h.2), omega (arith, h.3), ap (λ (v : ℕ). b % 128 + 128 * v) h.4)
groups_more n b bytes (Err f) high h = no_groups_more n b bytes f high h

pub groups_sound : (n : ℕ) (bytes : List ℕ) → GroupsSound n bytes (groups_at n bytes)
unfolding groups_at
groups_sound zero bytes = (tt, omega arith)
groups_sound (suc n) [] = (tt, omega arith)
groups_sound (suc n) (b ∷ bytes) =
    elim (cases_lt b 128) [
      | inl lt ↦ let t = lt-ltb b 128 lt in let e : b % 128 ≡ b % 128 + 128 * 0 = omega arith in rw t (b ∷ [], refl, inl (lt, refl), omega arith, e)
      | inr le ↦ let t = le-ltb b 128 le in rw t (groups_more n b bytes (groups_at n bytes) le (groups_sound n bytes))
    ]

-- ---- varints

abbrev pub VarintSound : List ℕ → Result (ℕ × List ℕ) WireFault → Type 0
VarintSound bytes (Ok x) = (text : List ℕ) × (bytes ≡ text ++ x.1) × IsVarint text x.0
VarintSound bytes (Err f) = NoVarint bytes f

no_varint : (bytes : List ℕ) (f : WireFault) → NoGroups 10 bytes f → NoVarint bytes f
no_varint bytes Truncated h = h
no_varint bytes LongVarint h = h
no_varint bytes BadKey h = h
no_varint bytes Group h = h

varint_from_groups : (bytes : List ℕ) (r : Result (ℕ × List ℕ) WireFault) → GroupsSound 10 bytes r → VarintSound bytes (r >>= λ x. Ok (x.0 % 2 ^ 64, x.1))
varint_from_groups bytes (Ok x) h = (h.0, h.1, record { ends = h.2; short = h.3; value = ap (λ (v : ℕ). v % 2 ^ 64) h.4 })
varint_from_groups bytes (Err f) h = no_varint bytes f h

pub varint_sound : (bytes : List ℕ) → VarintSound bytes (varint_at bytes)
unfolding varint_at
varint_sound bytes = varint_from_groups bytes (groups_at 10 bytes) (groups_sound 10 bytes)

-- ---- what follows a key

abbrev PieceSound : ℕ → List ℕ → Result (List ℕ × List ℕ) WireFault → Type 0
PieceSound n bytes (Ok x) = (bytes ≡ x.0 ++ x.1) × (length x.0 ≡ n)
PieceSound n bytes (Err f) = (f ≡ Truncated) × (length bytes < n)

piece_sound : (n : ℕ) (bytes : List ℕ) → PieceSound n bytes (piece_at n bytes)
unfolding piece_at
piece_sound n bytes =
    elim (cases_lt (length bytes) n) [
      | inl lt ↦ let t = lt-ltb (length bytes) n lt in rw t (refl, lt)
      | inr le ↦ let t = le-ltb (length bytes) n le in rw t (sym (take-append-drop n bytes), length-take-le n bytes le)
    ]

-- the length, if any, what is held, and what follows
pub record Found (wire : Wire) (bytes : List ℕ) (content : Content) (at rest : List ℕ) : Type 0 where
  pub len : List ℕ
  pub held : List ℕ
  pub before : bytes ≡ len ++ at
  pub after : at ≡ held ++ rest
  pub holds : Holds wire len held content

abbrev pub ContentSound : Wire → List ℕ → Result (Content × List ℕ × List ℕ) WireFault → Type 0
ContentSound wire bytes (Ok x) = Found wire bytes x.0 x.1 x.2
ContentSound wire bytes (Err f) = HoldsNothing wire bytes f

number_found : (bytes : List ℕ) (r : Result (ℕ × List ℕ) WireFault) → VarintSound bytes r → ContentSound VarintWire bytes (r >>= λ x. Ok (Number x.0, bytes, x.1))
number_found bytes (Ok x) h = record { len = []; held = h.0; before = refl; after = h.1; holds = (refl, refl, h.2) }
number_found bytes (Err f) h = h

eight_found : (bytes : List ℕ) (r : Result (List ℕ × List ℕ) WireFault) → PieceSound 8 bytes r → ContentSound EightWire bytes (r >>= λ x. Ok (Eight x.0, bytes, x.1))
eight_found bytes (Ok x) h = record { len = []; held = x.0; before = refl; after = h.0; holds = (refl, refl, refl, h.1) }
eight_found bytes (Err f) h = h

four_found : (bytes : List ℕ) (r : Result (List ℕ × List ℕ) WireFault) → PieceSound 4 bytes r → ContentSound FourWire bytes (r >>= λ x. Ok (Four x.0, bytes, x.1))
four_found bytes (Ok x) h = record { len = []; held = x.0; before = refl; after = h.0; holds = (refl, refl, refl, h.1) }
four_found bytes (Err f) h = h

piece_found : (bytes len : List ℕ) (n : ℕ) (rest : List ℕ) (r : Result (List ℕ × List ℕ) WireFault) → bytes ≡ len ++ rest → IsVarint len n → PieceSound n rest r
    → ContentSound BytesWire bytes (r >>= λ x. Ok (Bytes x.0, rest, x.1))
piece_found bytes len n rest (Ok x) e is h = record { len = len; held = x.0; before = e; after = h.0; holds = (refl, subst (IsVarint len) (sym h.1) is, refl) }
piece_found bytes len n rest (Err f) e is h = inr (h.0, record { len = len; after = rest; n = n; split = e; length_is = is; fewer = h.1 })

bytes_found : (bytes : List ℕ) (r : Result (ℕ × List ℕ) WireFault) → VarintSound bytes r → ContentSound BytesWire bytes (r >>= λ n. piece_at n.0 n.1 >>= λ x. Ok (Bytes x.0, n.1, x.1))
bytes_found bytes (Ok x) h = piece_found bytes h.0 x.0 x.1 (piece_at x.0 x.1) h.1 h.2 (piece_sound x.0 x.1)
bytes_found bytes (Err f) h = inl h

pub content_sound : (wire : Wire) (bytes : List ℕ) → ContentSound wire bytes (content_at wire bytes)
unfolding content_at
content_sound VarintWire bytes = number_found bytes (varint_at bytes) (varint_sound bytes)
content_sound EightWire bytes = eight_found bytes (piece_at 8 bytes) (piece_sound 8 bytes)
content_sound BytesWire bytes = bytes_found bytes (varint_at bytes) (varint_sound bytes)
content_sound FourWire bytes = four_found bytes (piece_at 4 bytes) (piece_sound 4 bytes)
content_sound GroupWire bytes = refl
content_sound NoWire bytes = refl

-- ---- fields

pub record FieldFound (bytes : List ℕ) (i : Item) (at rest : List ℕ) : Type 0 where
  pub head : List ℕ
  pub held : List ℕ
  pub before : bytes ≡ head ++ at
  pub after : at ≡ held ++ rest
  pub field : IsField head held i

abbrev pub FieldSound : List ℕ → Result (Item × List ℕ × List ℕ) WireFault → Type 0
FieldSound bytes (Ok x) = FieldFound bytes x.0 x.1 x.2
FieldSound bytes (Err f) = NoVarint bytes f ⊎ IsKeyAlone bytes f

content_field : (bytes key rest : List ℕ) (k : ℕ) (r : Result (Content × List ℕ × List ℕ) WireFault) → bytes ≡ key ++ rest → IsVarint key k → IsNumber (k / 8) → ContentSound (wire_of (k % 8)) rest r
    → FieldSound bytes (r >>= λ x. Ok (record { number = k / 8; content = x.0 }, x.1, x.2))
content_field bytes key rest k (Ok x) e is number h = record {
  head = key ++ h.len;
  held = h.held;
  before = e ∙ ap (λ (l : List ℕ). key ++ l) h.before ∙ sym (append_assoc key h.len x.1);
  after = h.after;
  field = record { key = key; len = h.len; word = k; split = refl; key_is = is; number_is = refl; in_range = number; holds = h.holds };
}
content_field bytes key rest k (Err f) e is number h =
    inr (record { key = key; after = rest; word = k; split = e; key_is = is; wrong = inr (number, h) })

no_number : (bytes key rest : List ℕ) (k : ℕ) → bytes ≡ key ++ rest → IsVarint key k → (IsNumber (k / 8) → ⊥) → IsKeyAlone bytes BadKey
no_number bytes key rest k e is none = record { key = key; after = rest; word = k; split = e; key_is = is; wrong = inl (none, refl) }

key_field : (bytes : List ℕ) (r : Result (ℕ × List ℕ) WireFault) → VarintSound bytes r
    → FieldSound bytes (r >>= λ key. cond (ltb 0 (key.0 / 8) && leb (key.0 / 8) MAX_FIELD_NUMBER) (content_at (wire_of (key.0 % 8)) key.1 >>= λ x. Ok (record { number = key.0 / 8; content = x.0 }, x.1, x.2)) (Err BadKey))
key_field bytes (Ok x) h =
    elim (cases_lt 0 (x.0 / 8)) [
      | inl low ↦
          elim (cases_lt MAX_FIELD_NUMBER (x.0 / 8)) [
            | inl high ↦
                let t = lt-ltb 0 (x.0 / 8) low in
                let u = lt-leb (x.0 / 8) MAX_FIELD_NUMBER high in
                rw (t, u) (inr (no_number bytes h.0 x.1 x.0 h.1 h.2 (λ n. omega (arith, n.1))))
            | inr le ↦
                let t = lt-ltb 0 (x.0 / 8) low in
                let u = le-leb (x.0 / 8) MAX_FIELD_NUMBER le in
                rw (t, u) (content_field bytes h.0 x.1 x.0 (content_at (wire_of (x.0 % 8)) x.1) h.1 h.2 (low, le) (content_sound (wire_of (x.0 % 8)) x.1))
          ]
      | inr none ↦
          let t = le-ltb 0 (x.0 / 8) none in
          rw t (inr (no_number bytes h.0 x.1 x.0 h.1 h.2 (λ n. omega (arith, n.0))))
    ]
key_field bytes (Err f) h = inl h

pub field_sound : (bytes : List ℕ) → FieldSound bytes (field_at bytes)
unfolding field_at
field_sound bytes = key_field bytes (varint_at bytes) (varint_sound bytes)
