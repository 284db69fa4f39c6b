-- From a field that is read at a place to the grammar, and to the one reading.
use Rattle.std.proofs.Common.{◌≡◌, ℕ, ◌-◌, ◌<◌, ◌≤◌, List, ◌++◌, length, take, drop, slice_range, Option, Some, None, Result, Ok, Err, MatchResult, MatchOption, sym, ap, subst, ◌∙◌, arith}
use Rattle.std.proofs.lemmas.List.{length-append, length-drop, take_at}
use Rattle.bep_wire.specs.declared.fault.WireFault.{WireFault}
use Rattle.bep_wire.specs.declared.field.Field.{Field}
use Rattle.bep_wire.specs.Content.{item_in, held_in}
use Rattle.bep_wire.specs.Reading.{field_at}
use Rattle.bep_wire.specs.Grammar.{IsField, NoField}
use Rattle.bep_wire.specs.Fields.{broken, fields}
use Rattle.bep_wire.specs.Places.{IsFieldAt, FindsField, ReadsField}
use Rattle.bep_wire.proofs.Sound.{FieldSound, field_sound}
use Rattle.bep_wire.proofs.Readings.{fields_none, fields_next, fields_broken}

-- what reading one field at a place gives
abbrev pub FieldGives : List ℕ → ℕ → Result (Option Field) WireFault → Type 0
FieldGives source from result =
    MatchResult result
    (λ found. MatchOption found (length source ≤ from)
    (λ f. (field_at (drop from source) ≡ Ok (item_in source f, drop f.start source, drop f.end source)) × (from < f.start) × (f.start ≤ f.end) × (f.end ≤ length source)))
    (λ e. (from < length source) × (field_at (drop from source) ≡ Err e))

-- a text between two places is the part between them
between_places : (source text : List ℕ) (from end : ℕ) → from ≤ end → end ≤ length source → drop from source ≡ text ++ drop end source → slice_range source from end ≡ text
between_places source text from end le within e =
    let len : length text ≡ end - from = omega (arith, length-append text (drop end source), ap length e, length-drop from source, length-drop end source) in
    ap (take (end - from)) e ∙ take_at text (drop end source) (end - from) len

stands : (source : List ℕ) (from : ℕ) (f : Field) → from < f.start → f.start ≤ f.end → f.end ≤ length source → field_at (drop from source) ≡ Ok (item_in source f, drop f.start source, drop f.end source) → IsFieldAt source from f
stands source from f head order within e =
    let s : FieldSound (drop from source) (Ok (item_in source f, drop f.start source, drop f.end source)) = subst (FieldSound (drop from source)) e (field_sound (drop from source)) in
    let first : slice_range source from f.start ≡ s.head = between_places source s.head from f.start (omega arith) (omega arith) s.before in
    let second : slice_range source f.start f.end ≡ s.held = between_places source s.held f.start f.end order within s.after in
    record {
      head = head;
      order = order;
      within = within;
      field = subst (λ (t : List ℕ). IsField t (held_in source f) (item_in source f)) (sym first) (subst (λ (t : List ℕ). IsField s.head t (item_in source f)) (sym second) s.field);
    }

pub finds : (source : List ℕ) (from : ℕ) (result : Result (Option Field) WireFault) → FieldGives source from result → MatchResult result (FindsField source from) (NoField (drop from source))
finds source from (Ok None) h = h
finds source from (Ok (Some f)) h = stands source from f h.1 h.2 h.3 h.0
finds source from (Err e) h =
    let s : FieldSound (drop from source) (Err e) = subst (FieldSound (drop from source)) h.1 (field_sound (drop from source)) in
    (omega (arith, h.0, length-drop from source), s)

pub reads : (source : List ℕ) (from : ℕ) (result : Result (Option Field) WireFault) → FieldGives source from result → MatchResult result (ReadsField source from) (λ e. fields (drop from source) ≡ broken e)
reads source from (Ok None) h = fields_none (drop from source) (omega (arith, h, length-drop from source))
reads source from (Ok (Some f)) h = fields_next (drop from source) (item_in source f) (drop f.start source) (drop f.end source) h.0
reads source from (Err e) h = fields_broken (drop from source) e (omega (arith, h.0, length-drop from source)) h.1
