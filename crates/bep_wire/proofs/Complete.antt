-- What is in the grammar is read so, and each fault by the grammar is found.
use Rattle.std.proofs.Common.{◌≡◌, ◌⊎◌, inl, inr, ℕ, zero, suc, ◌+◌, ◌*◌, ◌/◌, ◌%◌, ◌<◌, ◌≤◌, true, false, ltb, leb, ◌&&◌, List, [], ◌∷◌, ◌++◌, length, Result, Ok, Err, refl, sym, ap, subst, ◌∙◌, arith, append_assoc}
use Rattle.std.proofs.lemmas.Bool.{cases_lt, lt-ltb, le-ltb, le-leb, lt-leb}
use Rattle.std.proofs.lemmas.List.{length-append, take_at, drop_at}
use Rattle.bep_wire.specs.declared.fault.WireFault.{WireFault}
use Rattle.bep_wire.specs.declared.field.TheConstants.{MAX_FIELD_NUMBER}
use Rattle.bep_wire.specs.declared.fault.WireFault.TheVariants.{Truncated, LongVarint, BadKey, Group}
use Rattle.bep_wire.specs.Content.{Wire, VarintWire, EightWire, BytesWire, FourWire, GroupWire, NoWire, wire_of, Content, Number, Eight, Bytes, Four, Item}
use Rattle.bep_wire.specs.Reading.{groups_at, varint_at, piece_at, content_at, field_at}
use Rattle.bep_wire.specs.Grammar.{IsSpelling, spelled, IsVarint, NoVarint, Holds, IsCut, HoldsNothing, IsNumber, IsField, NoContent, IsKeyAlone}
use Rattle.bep_wire.proofs.Sound.{NoGroups}

groups_again : (n : ℕ) (text rest : List ℕ) → IsSpelling text → length text ≤ n → groups_at n (text ++ rest) ≡ Ok (spelled text, rest)
unfolding groups_at
groups_again n [] rest is le = absurd is
groups_again zero (b ∷ text) rest is le = absurd (omega arith)
groups_again (suc n) (b ∷ text) rest (inl last) le =
    let t = lt-ltb b 128 last.0 in
    let e : b % 128 ≡ b % 128 + 128 * 0 = omega arith in
    rw (t, last.1) (ap (λ (v : ℕ). Ok (v, rest)) e)
groups_again (suc n) (b ∷ text) rest (inr more) le =
    let t = le-ltb b 128 more.0 in
    let further = groups_again n text rest more.1 (omega arith) in
    rw (t, further) refl

pub varint_again : (text rest : List ℕ) (n : ℕ) → IsVarint text n → varint_at (text ++ rest) ≡ Ok (n, rest)
unfolding varint_at
varint_again text rest n is = rw (groups_again 10 text rest is.ends is.short, is.value) refl

groups_fault : (n : ℕ) (bytes : List ℕ) (f : WireFault) → NoGroups n bytes f → groups_at n bytes ≡ Err f
unfolding groups_at
groups_fault zero bytes Truncated h = absurd (omega (arith, h.1))
groups_fault zero bytes LongVarint h = refl
groups_fault n bytes BadKey h = absurd h
groups_fault n bytes Group h = absurd h
groups_fault (suc n) [] Truncated h = refl
groups_fault (suc n) [] LongVarint h = absurd (omega (arith, h.1))
groups_fault (suc n) (b ∷ bytes) Truncated h =
    let t = le-ltb b 128 h.0.0 in
    let further = groups_fault n bytes Truncated (h.0.1, omega (arith, h.1)) in
    rw (t, further) refl
groups_fault (suc n) (b ∷ bytes) LongVarint h =
    let t = le-ltb b 128 h.0.0 in
    let further = groups_fault n bytes LongVarint (h.0.1, omega (arith, h.1)) in
    rw (t, further) refl

no_groups : (bytes : List ℕ) (f : WireFault) → NoVarint bytes f → NoGroups 10 bytes f
no_groups bytes Truncated h = h
no_groups bytes LongVarint h = h
no_groups bytes BadKey h = h
no_groups bytes Group h = h

pub varint_fault : (bytes : List ℕ) (f : WireFault) → NoVarint bytes f → varint_at bytes ≡ Err f
unfolding varint_at
varint_fault bytes f h = rw (groups_fault 10 bytes f (no_groups bytes f h)) refl

piece_again : (text rest : List ℕ) (n : ℕ) → length text ≡ n → piece_at n (text ++ rest) ≡ Ok (text, rest)
unfolding piece_at
piece_again text rest n e =
    let t = le-ltb (length (text ++ rest)) n (omega (arith, length-append text rest)) in
    rw (t, take_at text rest n e, drop_at text rest n e) refl

piece_fault : (n : ℕ) (bytes : List ℕ) → length bytes < n → piece_at n bytes ≡ Err Truncated
unfolding piece_at
piece_fault n bytes lt = let t = lt-ltb (length bytes) n lt in rw t refl

-- ---- what follows a key

pub content_again : (wire : Wire) (len held rest : List ℕ) (v : Content) → Holds wire len held v → content_at wire (len ++ (held ++ rest)) ≡ Ok (v, held ++ rest, rest)
unfolding content_at
content_again wire len held rest (Number n) h = rw (h.0, h.1, varint_again held rest n h.2) refl
content_again wire len held rest (Eight bytes) h = rw (h.0, h.1, h.2, piece_again held rest 8 h.3) refl
content_again wire len held rest (Four bytes) h = rw (h.0, h.1, h.2, piece_again held rest 4 h.3) refl
content_again wire len held rest (Bytes bytes) h =
    rw (h.0, varint_again len (held ++ rest) (length held) h.1, piece_again held rest (length held) refl, h.2) refl

cut_fault : (bytes : List ℕ) → IsCut bytes → content_at BytesWire bytes ≡ Err Truncated
unfolding content_at
cut_fault bytes h = rw (h.split, varint_again h.len h.after h.n h.length_is, piece_fault h.n h.after h.fewer) refl

pub content_fault : (wire : Wire) (bytes : List ℕ) (f : WireFault) → HoldsNothing wire bytes f → content_at wire bytes ≡ Err f
unfolding content_at
content_fault VarintWire bytes f h = rw (varint_fault bytes f h) refl
content_fault EightWire bytes f h = rw (piece_fault 8 bytes h.1, h.0) refl
content_fault BytesWire bytes f (inl h) = rw (varint_fault bytes f h) refl
content_fault BytesWire bytes f (inr h) = cut_fault bytes h.1 ∙ ap Err (sym h.0)
content_fault FourWire bytes f h = rw (piece_fault 4 bytes h.1, h.0) refl
content_fault GroupWire bytes f h = ap Err (sym h)
content_fault NoWire bytes f h = ap Err (sym h)

-- ---- fields

number_test : (n : ℕ) → IsNumber n → (ltb 0 n && leb n MAX_FIELD_NUMBER) ≡ true
number_test n h =
    let t = lt-ltb 0 n h.0 in
    let u = le-leb n MAX_FIELD_NUMBER h.1 in
    rw (t, u) refl

no_number_test : (n : ℕ) → (IsNumber n → ⊥) → (ltb 0 n && leb n MAX_FIELD_NUMBER) ≡ false
no_number_test n h =
    elim (cases_lt 0 n) [
      | inl low ↦
          elim (cases_lt MAX_FIELD_NUMBER n) [
            | inl high ↦ let t = lt-ltb 0 n low in let u = lt-leb n MAX_FIELD_NUMBER high in rw (t, u) refl
            | inr le ↦ absurd (h (low, le))
          ]
      | inr none ↦ let t = le-ltb 0 n none in rw t refl
    ]

abbrev made : ℕ → Content → List ℕ → List ℕ → Result (Item × List ℕ × List ℕ) WireFault
made number v at rest = Ok (record { number = number; content = v }, at, rest)

pub field_again : (head held rest : List ℕ) (i : Item) → IsField head held i → field_at (head ++ (held ++ rest)) ≡ Ok (i, held ++ rest, rest)
unfolding field_at
field_again head held rest i h =
    let k = h.word in
    let regrouped : head ++ (held ++ rest) ≡ h.key ++ (h.len ++ (held ++ rest)) = ap (λ (l : List ℕ). l ++ (held ++ rest)) h.split ∙ append_assoc h.key h.len (held ++ rest) in
    let number : IsNumber (k / 8) = subst IsNumber (sym h.number_is) h.in_range in
    let read : field_at (h.key ++ (h.len ++ (held ++ rest))) ≡ made (k / 8) i.content (held ++ rest) rest
    = rw (varint_again h.key (h.len ++ (held ++ rest)) k h.key_is, number_test (k / 8) number, content_again (wire_of (k % 8)) h.len held rest i.content h.holds) refl in
    ap field_at regrouped ∙ read ∙ ap (λ (n : ℕ). made n i.content (held ++ rest) rest) h.number_is

key_fault : (k : ℕ) (key rest : List ℕ) (f : WireFault) → IsVarint key k → NoContent k rest f → field_at (key ++ rest) ≡ Err f
unfolding field_at
key_fault k key rest f is (inl h) = rw (varint_again key rest k is, no_number_test (k / 8) h.0, h.1) refl
key_fault k key rest f is (inr h) = rw (varint_again key rest k is, number_test (k / 8) h.0, content_fault (wire_of (k % 8)) rest f h.1) refl

pub field_fault : (bytes : List ℕ) (f : WireFault) → NoVarint bytes f ⊎ IsKeyAlone bytes f → field_at bytes ≡ Err f
unfolding field_at
field_fault bytes f (inl h) = rw (varint_fault bytes f h) refl
field_fault bytes f (inr h) = ap field_at h.split ∙ key_fault h.word h.key h.after f h.key_is h.wrong
