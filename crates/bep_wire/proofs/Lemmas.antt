-- The laws, as the functions of src/laws.rt state them, for the proofs of other crates.
use Rattle.std.proofs.Common.{◌≡◌, ℕ, ◌+◌, ◌*◌, ◌/◌, ◌%◌, ◌^◌, ◌<◌, ◌≤◌, List, [], ◌++◌, length, Option, None, refl, sym, ap, subst, ◌∙◌, arith, append_assoc}
use Rattle.bep_wire.specs.declared.fault.WireFault.{WireFault}
use Rattle.bep_wire.specs.Content.{wire_of, Content, Number, Bytes, Item}
use Rattle.bep_wire.specs.Grammar.{IsVarint, Holds, IsNumber, IsField, Reads}
use Rattle.bep_wire.specs.Fields.{Fields, fields, ended, first_then}
use Rattle.bep_wire.specs.Written.{shortest, key, number_field, bytes_field}
use Rattle.bep_wire.proofs.Varints.{is_varint, shortest_is_least}
use Rattle.bep_wire.proofs.Readings as readings

-- ---- one reading

pub reading_is_read : (bytes : List ℕ) → Reads bytes (fields bytes).items (fields bytes).fault
reading_is_read = readings.fields_are_read

pub only_reading : (bytes : List ℕ) (items : List Item) (end : Option WireFault) → Reads bytes items end → (items ≡ (fields bytes).items) × (end ≡ (fields bytes).fault)
only_reading bytes items end h =
    let e = sym (readings.one_reading_only bytes items end h) in
    (ap (λ (fs : Fields). fs.items) e, ap (λ (fs : Fields). fs.fault) e)

pub fields_none : (bytes : List ℕ) → length bytes ≡ 0 → fields bytes ≡ ended
fields_none = readings.fields_none

-- ---- joined lists

pub fields_joined : (a b : List ℕ) → (fields a).fault ≡ None → fields (a ++ b) ≡ record { items = (fields a).items ++ (fields b).items; fault = (fields b).fault }
fields_joined = readings.fields_joined

pub joined_items : (a b : List ℕ) → (fields a).fault ≡ None → (fields (a ++ b)).items ≡ (fields a).items ++ (fields b).items
joined_items a b e = ap (λ (fs : Fields). fs.items) (fields_joined a b e)

pub joined_fault : (a b : List ℕ) → (fields a).fault ≡ None → (fields (a ++ b)).fault ≡ (fields b).fault
joined_fault a b e = ap (λ (fs : Fields). fs.fault) (fields_joined a b e)

-- ---- the written varint

pub shortest_spells : (n : ℕ) → n < 2 ^ 64 → IsVarint (shortest n) n
shortest_spells = is_varint

pub shortest_least : (n : ℕ) (bytes : List ℕ) → IsVarint bytes n → length (shortest n) ≤ length bytes
shortest_least = shortest_is_least

-- ---- written fields are read again

-- a written key, a length where the wire type has one, and what they are for are a field
written_field : (number wire : ℕ) (len held : List ℕ) (v : Content) → IsNumber number → wire < 8 → Holds (wire_of wire) len held v → IsField (key number wire ++ len) held (record { number = number; content = v })
written_field number wire len held v is lt holds =
    let word = 8 * number + wire in
    let few : word < 2 ^ 64 = omega (arith, is.1) in
    let is_number : word / 8 ≡ number = omega arith in
    let is_wire : wire ≡ word % 8 = omega arith in
    record {
      key = key number wire;
      len = len;
      word = word;
      split = refl;
      key_is = is_varint word few;
      number_is = is_number;
      in_range = is;
      holds = subst (λ (w : ℕ). Holds (wire_of w) len held v) is_wire holds;
    }

pub number_again : (number value : ℕ) (rest : List ℕ) → IsNumber number → value < 2 ^ 64 → fields (number_field number value ++ rest) ≡ first_then (record { number = number; content = Number value }) (fields rest)
number_again number value rest is lt =
    let field = written_field number 0 [] (shortest value) (Number value) is (omega arith) (refl, refl, is_varint value lt) in
    let regrouped : number_field number value ++ rest ≡ (key number 0 ++ []) ++ (shortest value ++ rest) = simp append_assoc in
    ap fields regrouped ∙ readings.fields_field (key number 0 ++ []) (shortest value) rest (record { number = number; content = Number value }) field

pub bytes_again : (number : ℕ) (bytes rest : List ℕ) → IsNumber number → length bytes < 2 ^ 64 → fields (bytes_field number bytes ++ rest) ≡ first_then (record { number = number; content = Bytes bytes }) (fields rest)
bytes_again number bytes rest is lt =
    let field = written_field number 2 (shortest (length bytes)) bytes (Bytes bytes) is (omega arith) (refl, is_varint (length bytes) lt, refl) in
    let regrouped : bytes_field number bytes ++ rest ≡ (key number 2 ++ shortest (length bytes)) ++ (bytes ++ rest) = simp append_assoc in
    ap fields regrouped ∙ readings.fields_field (key number 2 ++ shortest (length bytes)) bytes rest (record { number = number; content = Bytes bytes }) field
