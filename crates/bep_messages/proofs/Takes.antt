-- Which fields and messages take memory.
use Rattle.std.proofs.Common.{◌≡◌, ◌⊎◌, ℕ, ◌<◌, ◌≤◌, Bool, true, false, ◌==◌, List, [], ◌∷◌, ◌++◌, length, Option, None, refl, ap, subst, arith, inl, inr, if◌then◌else◌}
use Rattle.std.specs.Prelude.{MatchBool}
use Rattle.std.specs.Str.{IsUtf8}
use Rattle.std.specs.List.{AllByRecursion}
use Rattle.std.proofs.lemmas.Bool.{cases_eq, eq-eqb, ne_eqb}
use Rattle.bep_wire.specs.Content.{Content, Number, Eight, Bytes, Four, Item}
use Rattle.bep_wire.specs.Fields.{fields}
use Rattle.bep_messages.specs.declared.fault.MessageFault.{MessageFault}
use Rattle.bep_messages.specs.declared.octets.TheConstants.{DIGEST_LEN}
use Rattle.bep_messages.specs.Tables.{Scalar, Int32, Int64, Uint32, Uint64, Enum, Boolean, Words, Octets, Digest, Table, End, One, Message, Texts, Messages}
use Rattle.bep_messages.specs.Protocol.{ping_table, download_progress_table, header_table, block_info_table, close_table}
use Rattle.bep_messages.specs.Known.{is_bytes, is_of, is_known}
use Rattle.bep_messages.specs.Contents.{contents, bytes_in, byte_lists}
use Rattle.bep_messages.specs.Faults.{item_fault}
use Rattle.bep_messages.specs.Memory.{HoldsBytes, ScalarTakes, SomeTakes, ItemTakes, TakesMemory, ElementTakes}
use Rattle.bep_messages.proofs.Absent.{here, skip}

-- ---- the row of a number

at_row : (n m : ℕ) (P Q : Type 0) → n ≡ m → MatchBool (n == m) P Q → P
at_row n m P Q same h = let t = eq-eqb n m same in rw t at h

past_row : (n m : ℕ) (P Q : Type 0) → (n ≡ m → ⊥) → MatchBool (n == m) P Q → Q
past_row n m P Q other h = let t = ne_eqb n m other in rw t at h

by_row : (n m : ℕ) (P Q : Type 0) → MatchBool (n == m) P Q → ((n ≡ m) × P) ⊎ Q
by_row n m P Q h =
    elim (cases_eq n m) [
      | inl same ↦ inl (same, at_row n m P Q same h)
      | inr other ↦ inr (past_row n m P Q other h)
    ]

-- ---- unknown fields

known_row : (b known others : Bool) (P Q : Type 0) → (known ≡ false → P → ⊥) → (others ≡ false → Q → ⊥) → (if b then known else others) ≡ false → MatchBool b P Q → ⊥
known_row true known others P Q p q e h = p e h
known_row false known others P Q p q e h = q e h

no_bytes : (property : List ℕ → Type 0) (c : Content) → is_bytes c ≡ false → HoldsBytes property c → ⊥
no_bytes property (Number n) e h = h
no_bytes property (Eight bytes) e h = h
no_bytes property (Bytes bytes) e h = absurd cc
no_bytes property (Four bytes) e h = h

no_scalar : (kind : Scalar) (c : Content) → is_of kind c ≡ false → ScalarTakes kind c → ⊥
no_scalar Int32 c e h = h
no_scalar Int64 c e h = h
no_scalar Uint32 c e h = h
no_scalar Uint64 c e h = h
no_scalar Enum c e h = h
no_scalar Boolean c e h = h
no_scalar Words c e h = no_bytes (λ bytes. IsUtf8 bytes × (0 < length bytes)) c e h
no_scalar Octets c e h = no_bytes (λ bytes. 0 < length bytes) c e h
no_scalar Digest c e h = no_bytes (λ bytes. DIGEST_LEN < length bytes) c e h

pub unknown_takes : (table : Table) (i : Item) → is_known table i ≡ false → ItemTakes table i → ⊥
unknown_takes End i e h = h
unknown_takes (One n kind rows) i e h = known_row (n == i.number) (is_of kind i.content) (is_known rows i) (ScalarTakes kind i.content) (ItemTakes rows i) (no_scalar kind i.content) (unknown_takes rows i) e h
unknown_takes (Message n inner rows) i e h =
    known_row (n == i.number) (is_bytes i.content) (is_known rows i) (HoldsBytes (TakesMemory inner) i.content) (ItemTakes rows i) (no_bytes (TakesMemory inner) i.content) (unknown_takes rows i) e h
unknown_takes (Texts n rows) i e h = known_row (n == i.number) (is_bytes i.content) (is_known rows i) (HoldsBytes IsUtf8 i.content) (ItemTakes rows i) (no_bytes IsUtf8 i.content) (unknown_takes rows i) e h
unknown_takes (Messages n inner rows) i e h =
    known_row (n == i.number) (is_bytes i.content) (is_known rows i) (HoldsBytes (ElementTakes inner) i.content) (ItemTakes rows i) (no_bytes (ElementTakes inner) i.content) (unknown_takes rows i) e h

-- ---- one field

pub bad_text : (n : ℕ) (rows : Table) (bytes : List ℕ) → (IsUtf8 bytes → ⊥) → ItemTakes (One n Words rows) (record { number = n; content = Bytes bytes }) → ⊥
bad_text n rows bytes bad h = bad (at_row n n (IsUtf8 bytes × (0 < length bytes)) (ItemTakes rows (record { number = n; content = Bytes bytes })) refl h).0

pub bad_element : (n : ℕ) (rows : Table) (bytes : List ℕ) → (IsUtf8 bytes → ⊥) → ItemTakes (Texts n rows) (record { number = n; content = Bytes bytes }) → ⊥
bad_element n rows bytes bad h = bad (at_row n n (IsUtf8 bytes) (ItemTakes rows (record { number = n; content = Bytes bytes })) refl h)

pub nested : (n : ℕ) (inner rows : Table) (bytes : List ℕ) → ItemTakes (Message n inner rows) (record { number = n; content = Bytes bytes }) → TakesMemory inner bytes
nested n inner rows bytes h = at_row n n (TakesMemory inner bytes) (ItemTakes rows (record { number = n; content = Bytes bytes })) refl h

pub element : (n : ℕ) (inner rows : Table) (bytes : List ℕ) → ItemTakes (Messages n inner rows) (record { number = n; content = Bytes bytes }) → ElementTakes inner bytes
element n inner rows bytes h = at_row n n (ElementTakes inner bytes) (ItemTakes rows (record { number = n; content = Bytes bytes })) refl h

-- ---- fields after a fault

pub up_to_fault : (takes : Item → Type 0) (fault : Item → Option MessageFault) (front rest : List Item) (i : Item) → (fault i ≡ None → ⊥)
    → SomeTakes takes fault (front ++ i ∷ rest) → SomeTakes takes fault (front ++ i ∷ [])
up_to_fault takes fault [] rest i wrong h = elim h [ inl one ↦ inl one | inr more ↦ absurd (wrong more.0) ]
up_to_fault takes fault (x ∷ front) rest i wrong h = elim h [ inl one ↦ inl one | inr more ↦ inr (more.0, up_to_fault takes fault front rest i wrong more.1) ]

-- ---- whole messages

none_takes : (takes : Item → Type 0) (fault : Item → Option MessageFault) → ((i : Item) → takes i → ⊥) → (items : List Item) → SomeTakes takes fault items → ⊥
none_takes takes fault never [] h = h
none_takes takes fault never (i ∷ items) h = elim h [ inl one ↦ never i one | inr more ↦ none_takes takes fault never items more.1 ]

pub ping_takes : (bytes : List ℕ) → TakesMemory ping_table bytes → ⊥
ping_takes bytes h = none_takes (ItemTakes ping_table) (item_fault ping_table) (λ i one. one) (fields bytes).items h

pub download_progress_takes : (bytes : List ℕ) → TakesMemory download_progress_table bytes → ⊥
download_progress_takes bytes h = none_takes (ItemTakes download_progress_table) (item_fault download_progress_table) (λ i one. one) (fields bytes).items h

either : (b : Bool) (P Q : Type 0) → (P → ⊥) → (Q → ⊥) → MatchBool b P Q → ⊥
either true P Q p q h = p h
either false P Q p q h = q h

pub header_takes : (bytes : List ℕ) → TakesMemory header_table bytes → ⊥
header_takes bytes h =
    none_takes (ItemTakes header_table) (item_fault header_table)
    (λ i one. either (1 == i.number) ⊥ (MatchBool (2 == i.number) ⊥ ⊥) (λ never. never) (λ more. either (2 == i.number) ⊥ ⊥ (λ never. never) (λ never. never) more) one)
    (fields bytes).items h

-- ---- messages with one row that may take memory

parts : {A : Type 0} (P : A → Type 0) (xs ys : List A) → AllByRecursion P (xs ++ ys) → AllByRecursion P xs × AllByRecursion P ys
parts P [] ys all = (tt, all)
parts P (x ∷ xs) ys all = let rest = parts P xs ys all.1 in ((all.0, rest.0), rest.1)

holds_none : (property : List ℕ → Type 0) (c : Content) → AllByRecursion (λ bytes. property bytes → ⊥) (bytes_in c) → HoldsBytes property c → ⊥
holds_none property (Number n) all h = h
holds_none property (Eight bytes) all h = h
holds_none property (Bytes bytes) all h = all.0 h
holds_none property (Four bytes) all h = h

one_row : (n : ℕ) (property : List ℕ → Type 0) (takes : Item → Type 0) (fault : Item → Option MessageFault) → ((i : Item) → takes i → (n ≡ i.number) × HoldsBytes property i.content)
    → (items : List Item) → AllByRecursion (λ bytes. property bytes → ⊥) (byte_lists (contents n items)) → SomeTakes takes fault items → ⊥
one_row n property takes fault row [] all h = h
one_row n property takes fault row (i ∷ items) all h =
    let never : List ℕ → Type 0 = λ bytes. property bytes → ⊥ in
    let All : List Content → Type 0 = λ cs. AllByRecursion never (byte_lists cs) in
    elim (cases_eq n i.number) [
      | inl same ↦
          let p = parts never (bytes_in i.content) (byte_lists (contents n items)) (subst All (here n i.number (i.content ∷ contents n items) (contents n items) same) all) in
          elim h [ inl one ↦ holds_none property i.content p.0 (row i one).1 | inr more ↦ one_row n property takes fault row items p.1 more.1 ]
      | inr other ↦
          let rest = subst All (skip n i.number (i.content ∷ contents n items) (contents n items) other) all in
          elim h [ inl one ↦ other (row i one).0 | inr more ↦ one_row n property takes fault row items rest more.1 ]
    ]

weaker : {A : Type 0} (P Q : A → Type 0) → ((x : A) → P x → Q x) → (xs : List A) → AllByRecursion P xs → AllByRecursion Q xs
weaker P Q h [] all = tt
weaker P Q h (x ∷ xs) all = (h x all.0, weaker P Q h xs all.1)

digest_row : (i : Item) → ItemTakes block_info_table i → (3 ≡ i.number) × HoldsBytes (λ bytes. DIGEST_LEN < length bytes) i.content
digest_row i h =
    let long : Type 0 = HoldsBytes (λ bytes. DIGEST_LEN < length bytes) i.content in
    let third : Type 0 = MatchBool (3 == i.number) long ⊥ in
    let second : Type 0 = MatchBool (2 == i.number) ⊥ third in
    elim (by_row 1 i.number ⊥ second h) [
      | inl never ↦ absurd never.1
      | inr h2 ↦ elim (by_row 2 i.number ⊥ third h2) [
        | inl never ↦ absurd never.1
        | inr h3 ↦ elim (by_row 3 i.number long ⊥ h3) [ inl is ↦ is | inr never ↦ absurd never ]
      ]
    ]

pub block_info_takes : (bytes : List ℕ) → AllByRecursion (λ held. length held ≤ DIGEST_LEN) (byte_lists (contents 3 (fields bytes).items)) → TakesMemory block_info_table bytes → ⊥
block_info_takes bytes short h =
    let few : List ℕ → Type 0 = λ held. length held ≤ DIGEST_LEN in
    let many : List ℕ → Type 0 = λ held. DIGEST_LEN < length held in
    one_row 3 many (ItemTakes block_info_table) (item_fault block_info_table) digest_row (fields bytes).items
    (weaker few (λ held. many held → ⊥) (λ held le lt. omega (arith, le, lt)) (byte_lists (contents 3 (fields bytes).items)) short) h

reason_row : (i : Item) → ItemTakes close_table i → (1 ≡ i.number) × HoldsBytes (λ bytes. IsUtf8 bytes × (0 < length bytes)) i.content
reason_row i h =
    elim (by_row 1 i.number (HoldsBytes (λ bytes. IsUtf8 bytes × (0 < length bytes)) i.content) ⊥ h) [ inl is ↦ is | inr never ↦ absurd never ]

pub close_takes : (bytes : List ℕ) → AllByRecursion (λ held. held ≡ []) (byte_lists (contents 1 (fields bytes).items)) → TakesMemory close_table bytes → ⊥
close_takes bytes blank h =
    let text : List ℕ → Type 0 = λ held. IsUtf8 held × (0 < length held) in
    one_row 1 text (ItemTakes close_table) (item_fault close_table) reason_row (fields bytes).items
    (weaker (λ held. held ≡ []) (λ held. text held → ⊥) (λ held none some. omega (arith, ap length none, some.1)) (byte_lists (contents 1 (fields bytes).items)) blank) h
