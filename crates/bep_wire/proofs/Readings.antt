-- Each byte list has one reading.
use Rattle.std.proofs.Common.{◌≡◌, ℕ, zero, suc, ◌<◌, ◌≤◌, List, [], ◌∷◌, ◌++◌, length, Option, Some, None, Result, Ok, Err, refl, sym, ap, subst, ◌∙◌, arith, append_assoc}
use Rattle.std.proofs.lemmas.List.{length-append}
use Rattle.bep_wire.specs.declared.fault.WireFault.{WireFault}
use Rattle.bep_wire.specs.Content.{Item}
use Rattle.bep_wire.specs.Reading.{field_at}
use Rattle.bep_wire.specs.Grammar.{IsSpelling, IsField, Begins, Reads}
use Rattle.bep_wire.specs.Fields.{Fields, ended, broken, first_then, read_then, fields_within, fields}
use Rattle.bep_wire.proofs.Sound.{FieldSound, field_sound}
use Rattle.bep_wire.proofs.Complete.{field_again, field_fault}

-- a head has a byte
spelling_long : (text : List ℕ) → IsSpelling text → 0 < length text
spelling_long [] h = absurd h
spelling_long (b ∷ text) h = omega arith

pub head_long : (head held : List ℕ) (i : Item) → IsField head held i → 0 < length head
head_long head held i h = omega (arith, spelling_long h.key h.key_is.ends, length-append h.key h.len, ap length h.split)

pub field_shorter : (bytes : List ℕ) (x : Item × List ℕ × List ℕ) → field_at bytes ≡ Ok x → length x.2 < length bytes
field_shorter bytes x e =
    let s : FieldSound bytes (Ok x) = subst (FieldSound bytes) e (field_sound bytes) in
    omega (arith, head_long s.head s.held x.0 s.field, length-append s.head x.1, ap length s.before, length-append s.held x.2, ap length s.after)

read_same : (f g : List ℕ → Fields) (r : Result (Item × List ℕ × List ℕ) WireFault) → ((x : Item × List ℕ × List ℕ) → r ≡ Ok x → f x.2 ≡ g x.2) → read_then f r ≡ read_then g r
read_same f g (Ok x) h = ap (first_then x.0) (h x refl)
read_same f g (Err e) h = refl

enough : (n m : ℕ) (bytes : List ℕ) → length bytes ≤ n → length bytes ≤ m → fields_within n bytes ≡ fields_within m bytes
unfolding fields_within
enough zero zero bytes p q = refl
enough zero (suc m) [] p q = refl
enough zero (suc m) (b ∷ bytes) p q = absurd (omega arith)
enough (suc n) zero [] p q = refl
enough (suc n) zero (b ∷ bytes) p q = absurd (omega arith)
enough (suc n) (suc m) [] p q = refl
enough (suc n) (suc m) (b ∷ bytes) p q =
    read_same (fields_within n) (fields_within m) (field_at (b ∷ bytes)) (λ x e. let s = field_shorter (b ∷ bytes) x e in enough n m x.2 (omega arith) (omega arith))

fields_read : (bytes : List ℕ) → 0 < length bytes → fields bytes ≡ read_then fields (field_at bytes)
unfolding fields fields_within
fields_read [] lt = absurd (omega arith)
fields_read (b ∷ bytes) lt =
    read_same (fields_within (length bytes)) fields (field_at (b ∷ bytes)) (λ x e. let s = field_shorter (b ∷ bytes) x e in enough (length bytes) (length x.2) x.2 (omega arith) (omega arith))

pub fields_none : (bytes : List ℕ) → length bytes ≡ 0 → fields bytes ≡ ended
unfolding fields fields_within
fields_none [] e = refl
fields_none (b ∷ bytes) e = absurd (omega arith)

pub fields_next : (bytes : List ℕ) (i : Item) (at rest : List ℕ) → field_at bytes ≡ Ok (i, at, rest) → fields bytes ≡ first_then i (fields rest)
fields_next bytes i at rest e =
    let s = field_shorter bytes (i, at, rest) e in
    fields_read bytes (omega arith) ∙ ap (read_then fields) e

pub fields_broken : (bytes : List ℕ) (f : WireFault) → 0 < length bytes → field_at bytes ≡ Err f → fields bytes ≡ broken f
fields_broken bytes f lt e = fields_read bytes lt ∙ ap (read_then fields) e

-- a field of the grammar is read first, whatever follows it
pub fields_field : (head held rest : List ℕ) (i : Item) → IsField head held i → fields (head ++ (held ++ rest)) ≡ first_then i (fields rest)
fields_field head held rest i is = fields_next (head ++ (held ++ rest)) i (held ++ rest) rest (field_again head held rest i is)

-- ---- the reading is in the grammar

abbrev AreRead : List ℕ → Fields → Type 0
AreRead bytes fs = Reads bytes fs.items fs.fault

begins : (bytes : List ℕ) (x : Item × List ℕ × List ℕ) → FieldSound bytes (Ok x) → Begins bytes x.0 x.2
begins bytes x s = record { head = s.head; held = s.held; split = s.before ∙ ap (λ (l : List ℕ). s.head ++ l) s.after; field = s.field }

reads_then : (bytes : List ℕ) (r : Result (Item × List ℕ × List ℕ) WireFault) → 0 < length bytes → FieldSound bytes r → ((x : Item × List ℕ × List ℕ) → r ≡ Ok x → AreRead x.2 (fields x.2)) → AreRead bytes (read_then fields r)
reads_then bytes (Ok x) lt s h = (x.2, begins bytes x s, h x refl)
reads_then bytes (Err f) lt s h = (lt, s)

reads_within : (n : ℕ) (bytes : List ℕ) → length bytes ≤ n → AreRead bytes (fields bytes)
reads_within n [] le = subst (AreRead []) (sym (fields_none [] refl)) refl
reads_within zero (b ∷ bytes) le = absurd (omega arith)
reads_within (suc n) (b ∷ bytes) le =
    let lt : 0 < length (b ∷ bytes) = omega arith in
    subst (AreRead (b ∷ bytes)) (sym (fields_read (b ∷ bytes) lt)) (reads_then (b ∷ bytes) (field_at (b ∷ bytes)) lt (field_sound (b ∷ bytes)) (λ x e. let s = field_shorter (b ∷ bytes) x e in reads_within n x.2 (omega arith)))

pub fields_are_read : (bytes : List ℕ) → Reads bytes (fields bytes).items (fields bytes).fault
fields_are_read bytes = reads_within (length bytes) bytes (omega arith)

-- ---- and no other reading is

abbrev as_fields : List Item → Option WireFault → Fields
as_fields items fault = record { items = items; fault = fault }

pub one_reading_only : (bytes : List ℕ) (items : List Item) (end : Option WireFault) → Reads bytes items end → fields bytes ≡ as_fields items end
one_reading_only bytes [] None h = fields_none bytes (ap length h)
one_reading_only bytes [] (Some f) h = fields_broken bytes f h.0 (field_fault bytes f h.1)
one_reading_only bytes (i ∷ items) end h =
    let first = fields_field h.1.head h.1.held h.0 i h.1.field in
    ap fields h.1.split ∙ first ∙ ap (first_then i) (one_reading_only h.0 items end h.2)

-- ---- the fields of joined bytes

-- these items, and then those of another reading
abbrev pub items_then : List Item → Fields → Fields
items_then items others = record { items = items ++ others.items; fault = others.fault }

joined : (a b : List ℕ) (items : List Item) → Reads a items None → fields (a ++ b) ≡ items_then items (fields b)
joined a b [] h = ap (λ (l : List ℕ). fields (l ++ b)) h
joined a b (i ∷ items) h =
    let s = h.1 in
    let regrouped : a ++ b ≡ s.head ++ (s.held ++ (h.0 ++ b))
    = ap (λ (l : List ℕ). l ++ b) s.split ∙ append_assoc s.head (s.held ++ h.0) b ∙ ap (λ (l : List ℕ). s.head ++ l) (append_assoc s.held h.0 b) in
    ap fields regrouped ∙ fields_field s.head s.held (h.0 ++ b) i s.field ∙ ap (first_then i) (joined h.0 b items h.2)

pub fields_joined : (a b : List ℕ) → (fields a).fault ≡ None → fields (a ++ b) ≡ items_then (fields a).items (fields b)
fields_joined a b e = joined a b (fields a).items (subst (Reads a (fields a).items) e (fields_are_read a))
