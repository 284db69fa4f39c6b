-- What a message is after some fields and then others is what it is after all of them.
use Rattle.std.proofs.Common.{◌≡◌, ℕ, true, ◌==◌, List, [], ◌∷◌, ◌++◌, map, Option, None, Some, refl, sym, ap, ◌∙◌, append_assoc, inl, inr, if◌then◌else◌}
use Rattle.std.specs.List.{AllByRecursion}
use Rattle.std.proofs.lemmas.List.{map-append, append-nil}
use Rattle.std.proofs.lemmas.Bool.{cases_eq}
use Rattle.bep_wire.specs.declared.fault.WireFault.{WireFault}
use Rattle.bep_wire.specs.Content.{Content, Number, Eight, Bytes, Four, Item}
use Rattle.bep_wire.specs.Fields.{Fields, fields}
use Rattle.bep_wire.proofs.Lemmas.{fields_joined}
use Rattle.bep_messages.specs.declared.fault.MessageFault.{MessageFault}
use Rattle.bep_messages.specs.Tables.{Table, End, One, Message, Texts, Messages, Values, rises}
use Rattle.bep_messages.specs.Contents.{contents, bytes_in, byte_lists, scalar, joined, merged}
use Rattle.bep_messages.specs.Faults.{wire_fault, first_fault, item_fault, bytes_fault, message_fault}
use Rattle.bep_messages.specs.Values.{empty, values}
use Rattle.bep_messages.proofs.Words.{contents-append, byte_lists_of-append, scalar-append, scalar-none}
use Rattle.bep_messages.proofs.Absent.{rising, rising_within, here, skip, AreFine, no_first, none_then, fine_then, fine_after}

pub pair : {A B : Type 0} (a a' : A) (b b' : B) → a ≡ a' → b ≡ b' → let x : A × B = (a, b) in let y : A × B = (a', b') in x ≡ y
pair a a' b b' p q = rw (p, q) refl

-- ---- without fields the value is the same

pub values-none : (table : Table) (v : Values table) → values table v [] ≡ v
values-none End v = refl
values-none (One number kind rows) v = pair _ v.0 _ v.1 (scalar-none kind v.0) (values-none rows v.1)
values-none (Message number inner rows) v = pair _ v.0 _ v.1 refl (values-none rows v.1)
values-none (Texts number rows) v = pair _ v.0 _ v.1 (append-nil v.0) (values-none rows v.1)
values-none (Messages number inner rows) v = pair _ v.0 _ v.1 (append-nil v.0) (values-none rows v.1)

-- ---- readable bytes

no_end : (fault : Item → Option MessageFault) (items : List Item) (end : Option WireFault) → first_fault fault items end ≡ None → (wire_fault end ≡ None) × AreFine fault items
no_end fault [] end e = (e, refl)
no_end fault (i ∷ items) end e =
    let p = no_first (fault i) (first_fault fault items end) e in
    let q = no_end fault items end p.1 in
    (q.0, none_then (fault i) (first_fault fault items None) p.0 q.1)

no_wire : (o : Option WireFault) → wire_fault o ≡ None → o ≡ None
no_wire None e = refl
no_wire (Some f) e = absurd cc

-- bytes without a fault end without one, and none of their fields has one
pub readable : (table : Table) (bytes : List ℕ) → message_fault table bytes ≡ None → ((fields bytes).fault ≡ None) × AreFine (item_fault table) (fields bytes).items
readable table bytes e =
    let p = no_end (item_fault table) (fields bytes).items (fields bytes).fault e in
    (no_wire (fields bytes).fault p.0, p.1)

pub unreadable : (table : Table) (bytes : List ℕ) → (fields bytes).fault ≡ None → AreFine (item_fault table) (fields bytes).items → message_fault table bytes ≡ None
unreadable table bytes p q = ap (first_fault (item_fault table) (fields bytes).items) p ∙ q

-- ---- the joined bytes of occurrences

abbrev pub AreReadable : Table → List (List ℕ) → Type 0
AreReadable table ps = AllByRecursion (λ bytes. message_fault table bytes ≡ None) ps

joined_fields : (table : Table) (p q : List ℕ) → message_fault table p ≡ None → (fields (p ++ q)).items ≡ (fields p).items ++ (fields q).items
joined_fields table p q fine = ap (λ (fs : Fields). fs.items) (fields_joined p q (readable table p fine).0)

joined_readable : (table : Table) (p q : List ℕ) → message_fault table p ≡ None → message_fault table q ≡ None → message_fault table (p ++ q) ≡ None
joined_readable table p q fine more =
    let first = readable table p fine in
    let second = readable table q more in
    ap (λ (fs : Fields). first_fault (item_fault table) fs.items fs.fault) (fields_joined p q first.0)
    ∙ unfolded (fields q).fault second.0 ∙ fine_then (item_fault table) (fields p).items (fields q).items first.1 second.1
  where
    unfolded : (o : Option WireFault) → o ≡ None → first_fault (item_fault table) ((fields p).items ++ (fields q).items) o ≡ first_fault (item_fault table) ((fields p).items ++ (fields q).items) None
    unfolded o e = ap (first_fault (item_fault table) ((fields p).items ++ (fields q).items)) e

pub all_readable : (table : Table) (p : List ℕ) (ps : List (List ℕ)) → AreReadable table (p ∷ ps) → message_fault table (joined p ps) ≡ None
all_readable table p [] fine = fine.0
all_readable table p (q ∷ ps) fine = joined_readable table p (joined q ps) fine.0 (all_readable table q ps fine.1)

joined-append : (p q : List ℕ) (ps qs : List (List ℕ)) → joined p (ps ++ q ∷ qs) ≡ joined p ps ++ joined q qs
joined-append p q [] qs = refl
joined-append p q (r ∷ ps) qs = ap (λ (l : List ℕ). p ++ l) (joined-append r q ps qs) ∙ sym (append_assoc p (joined r ps) (joined q qs))

-- a message takes further fields as one that had them all
abbrev TakesFurther : (table : Table) → Type 0
TakesFurther table = (v : Values table) (xs ys : List Item) → AreFine (item_fault table) xs → values table (values table v xs) ys ≡ values table v (xs ++ ys)

merged-append : (table : Table) → TakesFurther table → (v : Values table) (ps qs : List (List ℕ)) → AreReadable table ps
    → merged (values table) (merged (values table) v ps) qs ≡ merged (values table) v (ps ++ qs)
merged-append table further v [] qs fine = refl
merged-append table further v (p ∷ ps) [] fine = ap (λ (l : List (List ℕ)). merged (values table) v (p ∷ l)) (sym (append-nil ps))
merged-append table further v (p ∷ ps) (q ∷ qs) fine =
    let whole = all_readable table p ps fine in
    further v (fields (joined p ps)).items (fields (joined q qs)).items (readable table (joined p ps) whole).1
    ∙ sym (ap (λ (bytes : List ℕ). values table v (fields bytes).items) (joined-append p q ps qs) ∙ ap (values table v) (joined_fields table (joined p ps) (joined q qs) whole))

-- what fields of a row of messages hold is readable where the fields are fine
content_readable : (table : Table) (c : Content) → bytes_fault (message_fault table) c ≡ None → AreReadable table (bytes_in c)
content_readable table (Number n) e = tt
content_readable table (Eight bytes) e = tt
content_readable table (Bytes bytes) e = (e, tt)
content_readable table (Four bytes) e = tt

all_then : {A : Type 0} (P : A → Type 0) (xs ys : List A) → AllByRecursion P xs → AllByRecursion P ys → AllByRecursion P (xs ++ ys)
all_then P [] ys p q = q
all_then P (x ∷ xs) ys p q = (p.0, all_then P xs ys p.1 q)

pub held_readable : (number : ℕ) (inner rows : Table) (items : List Item) → AreFine (λ i. if number == i.number then bytes_fault (message_fault inner) i.content else item_fault rows i) items
    → AreReadable inner (byte_lists (contents number items))
held_readable number inner rows [] fine = tt
held_readable number inner rows (i ∷ items) fine =
    let h = no_first (if number == i.number then bytes_fault (message_fault inner) i.content else item_fault rows i) _ fine in
    let rest = held_readable number inner rows items h.1 in
    elim (cases_eq number i.number) [
      | inl same ↦
          rw (here number i.number (i.content ∷ contents number items) (contents number items) same)
          (all_then (λ bytes. message_fault inner bytes ≡ None) (bytes_in i.content) (byte_lists (contents number items))
          (content_readable inner i.content (sym (here number i.number (bytes_fault (message_fault inner) i.content) (item_fault rows i) same) ∙ h.0)) rest)
      | inr other ↦ rw (skip number i.number (i.content ∷ contents number items) (contents number items) other) rest
    ]

-- ---- tables

pub values-append : (before : ℕ) (table : Table) → rises before table ≡ true → TakesFurther table
values-append before End e v xs ys fine = refl
values-append before (One number kind rows) e v xs ys fine =
    let r = rising before number rows e in
    pair _ _ _ _
    (scalar-append kind v.0 (contents number xs) (contents number ys) ∙ ap (scalar kind v.0) (sym (contents-append number xs ys)))
    (values-append number rows r.rows_rise v.1 xs ys (fine_after _ number rows xs r.rows_rise fine))
values-append before (Message number inner rows) e v xs ys fine =
    let r = rising_within before number inner rows e in
    pair _ _ _ _
    (merged-append inner (values-append 0 inner r.inner_rises) v.0 (byte_lists (contents number xs)) (byte_lists (contents number ys)) (held_readable number inner rows xs fine)
    ∙ ap (merged (values inner) v.0) (sym (byte_lists_of-append number xs ys)))
    (values-append number rows r.rows_rise v.1 xs ys (fine_after _ number rows xs r.rows_rise fine))
values-append before (Texts number rows) e v xs ys fine =
    let r = rising before number rows e in
    pair _ _ _ _
    (append_assoc v.0 (byte_lists (contents number xs)) (byte_lists (contents number ys)) ∙ ap (λ (l : List (List ℕ)). v.0 ++ l) (sym (byte_lists_of-append number xs ys)))
    (values-append number rows r.rows_rise v.1 xs ys (fine_after _ number rows xs r.rows_rise fine))
values-append before (Messages number inner rows) e v xs ys fine =
    let r = rising_within before number inner rows e in
    let item : List ℕ → Values inner = λ bytes. values inner (empty inner) (fields bytes).items in
    pair _ _ _ _
    (append_assoc v.0 (map item (byte_lists (contents number xs))) (map item (byte_lists (contents number ys)))
    ∙ ap (λ (l : List (Values inner)). v.0 ++ l) (sym (ap (map item) (byte_lists_of-append number xs ys) ∙ map-append item (byte_lists (contents number xs)) (byte_lists (contents number ys)))))
    (values-append number rows r.rows_rise v.1 xs ys (fine_after _ number rows xs r.rows_rise fine))

-- one field, and then others
pub values-next : (table : Table) → rises 0 table ≡ true → (v : Values table) (i : Item) (ys : List Item) → item_fault table i ≡ None → values table (values table v (i ∷ [])) ys ≡ values table v (i ∷ ys)
values-next table e v i ys fine = values-append 0 table e v (i ∷ []) ys (none_then (item_fault table i) None fine refl)
