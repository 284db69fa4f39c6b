-- Fields that change places, that are unknown, and that occur again.
use Rattle.std.proofs.Common.{◌≡◌, ℕ, ◌≤◌, Bool, true, false, ◌==◌, List, [], ◌∷◌, ◌++◌, map, Option, None, refl, sym, ap, ◌∙◌, append_assoc, arith, inl, inr, if◌then◌else◌}
use Rattle.std.proofs.lemmas.Bool.{cases_eq}
use Rattle.bep_wire.specs.Content.{Content, Number, Eight, Bytes, Four, Item}
use Rattle.bep_wire.specs.Fields.{fields}
use Rattle.bep_messages.specs.declared.fault.MessageFault.{MessageFault}
use Rattle.bep_messages.specs.Tables.{Scalar, Int32, Int64, Uint32, Uint64, Enum, Boolean, Words, Octets, Digest, Table, End, One, Message, Texts, Messages, Val, Values, rises}
use Rattle.bep_messages.specs.Known.{is_number, is_bytes, is_of, is_known, is_single}
use Rattle.bep_messages.specs.Contents.{contents, number_in, bytes_in, numbers, byte_lists, scalar, merged}
use Rattle.bep_messages.specs.Faults.{item_fault, bytes_fault, scalar_fault, text_fault, message_fault}
use Rattle.bep_messages.specs.Values.{empty, values}
use Rattle.bep_messages.proofs.Words.{contents-append, scalar-append}
use Rattle.bep_messages.proofs.Absent.{rising, rising_within, here, skip}
use Rattle.bep_messages.proofs.Joins.{pair}

-- ---- a value is made of the contents of each number

pub by_contents : (table : Table) (v : Values table) (xs ys : List Item) → ((n : ℕ) → contents n xs ≡ contents n ys) → values table v xs ≡ values table v ys
by_contents End v xs ys same = refl
by_contents (One n kind rows) v xs ys same = pair _ _ _ _ (ap (scalar kind v.0) (same n)) (by_contents rows v.1 xs ys same)
by_contents (Message n inner rows) v xs ys same = pair _ _ _ _ (ap (λ (cs : List Content). merged (values inner) v.0 (byte_lists cs)) (same n)) (by_contents rows v.1 xs ys same)
by_contents (Texts n rows) v xs ys same = pair _ _ _ _ (ap (λ (cs : List Content). v.0 ++ byte_lists cs) (same n)) (by_contents rows v.1 xs ys same)
by_contents (Messages n inner rows) v xs ys same =
    pair _ _ _ _ (ap (λ (cs : List Content). v.0 ++ map (λ bytes. values inner (empty inner) (fields bytes).items) (byte_lists cs)) (same n)) (by_contents rows v.1 xs ys same)

-- ---- two fields of different numbers

exchanged : (n : ℕ) (a b : Item) (rest : List Item) → (a.number ≡ b.number → ⊥) → contents n (a ∷ b ∷ rest) ≡ contents n (b ∷ a ∷ rest)
exchanged n a b rest other =
    elim (cases_eq n a.number) [
      | inl e ↦
          let not_b = skip n b.number (b.content ∷ contents n rest) (contents n rest) (λ same. other (sym e ∙ same)) in
          let is_a = here n a.number (a.content ∷ contents n rest) (contents n rest) e in
          here n a.number (a.content ∷ contents n (b ∷ rest)) (contents n (b ∷ rest)) e
          ∙ ap (λ (cs : List Content). a.content ∷ cs) not_b ∙ sym is_a
          ∙ sym (skip n b.number (b.content ∷ contents n (a ∷ rest)) (contents n (a ∷ rest)) (λ same. other (sym e ∙ same)))
      | inr ne ↦
          let not_a = skip n a.number (a.content ∷ contents n rest) (contents n rest) ne in
          skip n a.number (a.content ∷ contents n (b ∷ rest)) (contents n (b ∷ rest)) ne
          ∙ ap (λ (cs : List Content). if n == b.number then b.content ∷ cs else cs) (sym not_a)
    ]

pub exchange : (table : Table) (v : Values table) (front rest : List Item) (a b : Item) → (a.number ≡ b.number → ⊥) → values table v (front ++ a ∷ b ∷ rest) ≡ values table v (front ++ b ∷ a ∷ rest)
exchange table v front rest a b other =
    by_contents table v (front ++ a ∷ b ∷ rest) (front ++ b ∷ a ∷ rest) (λ n.
    contents-append n front (a ∷ b ∷ rest) ∙ ap (λ (cs : List Content). contents n front ++ cs) (exchanged n a b rest other) ∙ sym (contents-append n front (b ∷ a ∷ rest)))

-- ---- a field of another number

without : (n : ℕ) (front rest : List Item) (i : Item) → (n ≡ i.number → ⊥) → contents n (front ++ i ∷ rest) ≡ contents n (front ++ rest)
without n front rest i other =
    contents-append n front (i ∷ rest) ∙ ap (λ (cs : List Content). contents n front ++ cs) (skip n i.number (i.content ∷ contents n rest) (contents n rest) other) ∙ sym (contents-append n front rest)

pub absent_value : (before : ℕ) (table : Table) (v : Values table) (front rest : List Item) (i : Item) → rises before table ≡ true → i.number ≤ before → values table v (front ++ i ∷ rest) ≡ values table v (front ++ rest)
absent_value before End v front rest i e le = refl
absent_value before (One n kind rows) v front rest i e le =
    let r = rising before n rows e in
    pair _ _ _ _ (ap (scalar kind v.0) (without n front rest i (λ same. omega (arith, same, r.above)))) (absent_value n rows v.1 front rest i r.rows_rise (omega (arith, r.above)))
absent_value before (Message n inner rows) v front rest i e le =
    let r = rising_within before n inner rows e in
    pair _ _ _ _ (ap (λ (cs : List Content). merged (values inner) v.0 (byte_lists cs)) (without n front rest i (λ same. omega (arith, same, r.above)))) (absent_value n rows v.1 front rest i r.rows_rise (omega (arith, r.above)))
absent_value before (Texts n rows) v front rest i e le =
    let r = rising before n rows e in
    pair _ _ _ _ (ap (λ (cs : List Content). v.0 ++ byte_lists cs) (without n front rest i (λ same. omega (arith, same, r.above)))) (absent_value n rows v.1 front rest i r.rows_rise (omega (arith, r.above)))
absent_value before (Messages n inner rows) v front rest i e le =
    let r = rising_within before n inner rows e in
    pair _ _ _ _ (ap (λ (cs : List Content). v.0 ++ map (λ bytes. values inner (empty inner) (fields bytes).items) (byte_lists cs)) (without n front rest i (λ same. omega (arith, same, r.above)))) (absent_value n rows v.1 front rest i r.rows_rise (omega (arith, r.above)))

-- ---- a field of this number, under another wire type

with_one : (n : ℕ) (front rest : List Item) (i : Item) → n ≡ i.number → contents n (front ++ i ∷ rest) ≡ contents n front ++ (i.content ∷ contents n rest)
with_one n front rest i e = contents-append n front (i ∷ rest) ∙ ap (λ (cs : List Content). contents n front ++ cs) (here n i.number (i.content ∷ contents n rest) (contents n rest) e)

no_bytes : (c : Content) → is_bytes c ≡ false → bytes_in c ≡ []
no_bytes (Number n) e = refl
no_bytes (Eight bytes) e = refl
no_bytes (Bytes bytes) e = absurd cc
no_bytes (Four bytes) e = refl

no_numbers : (c : Content) → is_number c ≡ false → number_in c ≡ []
no_numbers (Number n) e = absurd cc
no_numbers (Eight bytes) e = refl
no_numbers (Bytes bytes) e = refl
no_numbers (Four bytes) e = refl

skip_bytes : (xs ys : List Content) (c : Content) → is_bytes c ≡ false → byte_lists (xs ++ c ∷ ys) ≡ byte_lists (xs ++ ys)
skip_bytes [] ys c e = ap (λ (l : List (List ℕ)). l ++ byte_lists ys) (no_bytes c e)
skip_bytes (x ∷ xs) ys c e = ap (λ (l : List (List ℕ)). bytes_in x ++ l) (skip_bytes xs ys c e)

skip_numbers : (xs ys : List Content) (c : Content) → is_number c ≡ false → numbers (xs ++ c ∷ ys) ≡ numbers (xs ++ ys)
skip_numbers [] ys c e = ap (λ (l : List ℕ). l ++ numbers ys) (no_numbers c e)
skip_numbers (x ∷ xs) ys c e = ap (λ (l : List ℕ). number_in x ++ l) (skip_numbers xs ys c e)

skip_scalar : (kind : Scalar) (v : Val kind) (xs ys : List Content) (c : Content) → is_of kind c ≡ false → scalar kind v (xs ++ c ∷ ys) ≡ scalar kind v (xs ++ ys)
skip_scalar Int32 v xs ys c e = rw (skip_numbers xs ys c e) refl
skip_scalar Int64 v xs ys c e = rw (skip_numbers xs ys c e) refl
skip_scalar Uint32 v xs ys c e = rw (skip_numbers xs ys c e) refl
skip_scalar Uint64 v xs ys c e = rw (skip_numbers xs ys c e) refl
skip_scalar Enum v xs ys c e = rw (skip_numbers xs ys c e) refl
skip_scalar Boolean v xs ys c e = rw (skip_numbers xs ys c e) refl
skip_scalar Words v xs ys c e = rw (skip_bytes xs ys c e) refl
skip_scalar Octets v xs ys c e = rw (skip_bytes xs ys c e) refl
skip_scalar Digest v xs ys c e = rw (skip_bytes xs ys c e) refl

skipped_bytes : (n : ℕ) (front rest : List Item) (i : Item) → n ≡ i.number → is_bytes i.content ≡ false → byte_lists (contents n (front ++ i ∷ rest)) ≡ byte_lists (contents n (front ++ rest))
skipped_bytes n front rest i same e =
    ap byte_lists (with_one n front rest i same) ∙ skip_bytes (contents n front) (contents n rest) i.content e ∙ ap byte_lists (sym (contents-append n front rest))

-- ---- unknown fields

no_fault : (fault : List ℕ → Option MessageFault) (c : Content) → is_bytes c ≡ false → bytes_fault fault c ≡ None
no_fault fault (Number m) h = refl
no_fault fault (Eight bytes) h = refl
no_fault fault (Bytes bytes) h = absurd cc
no_fault fault (Four bytes) h = refl

none_of : (k : Scalar) (c : Content) → is_of k c ≡ false → scalar_fault k c ≡ None
none_of Int32 c h = refl
none_of Int64 c h = refl
none_of Uint32 c h = refl
none_of Uint64 c h = refl
none_of Enum c h = refl
none_of Boolean c h = refl
none_of Words c h = no_fault text_fault c h
none_of Octets c h = refl
none_of Digest c h = refl

unknown_row : (n : ℕ) (fault : List ℕ → Option MessageFault) (rows : Table) (i : Item) → (is_known rows i ≡ false → item_fault rows i ≡ None)
    → (if n == i.number then is_bytes i.content else is_known rows i) ≡ false → (if n == i.number then bytes_fault fault i.content else item_fault rows i) ≡ None
unknown_row n fault rows i further e =
    elim (cases_eq n i.number) [
      | inl same ↦ here n i.number (bytes_fault fault i.content) (item_fault rows i) same ∙ no_fault fault i.content (sym (here n i.number (is_bytes i.content) (is_known rows i) same) ∙ e)
      | inr other ↦ skip n i.number (bytes_fault fault i.content) (item_fault rows i) other ∙ further (sym (skip n i.number (is_bytes i.content) (is_known rows i) other) ∙ e)
    ]

pub unknown_fault : (table : Table) (i : Item) → is_known table i ≡ false → item_fault table i ≡ None
unknown_fault End i e = refl
unknown_fault (One n kind rows) i e =
    elim (cases_eq n i.number) [
      | inl same ↦ here n i.number (scalar_fault kind i.content) (item_fault rows i) same ∙ none_of kind i.content (sym (here n i.number (is_of kind i.content) (is_known rows i) same) ∙ e)
      | inr other ↦ skip n i.number (scalar_fault kind i.content) (item_fault rows i) other ∙ unknown_fault rows i (sym (skip n i.number (is_of kind i.content) (is_known rows i) other) ∙ e)
    ]
unknown_fault (Message n inner rows) i e = unknown_row n (message_fault inner) rows i (unknown_fault rows i) e
unknown_fault (Texts n rows) i e = unknown_row n text_fault rows i (unknown_fault rows i) e
unknown_fault (Messages n inner rows) i e = unknown_row n (message_fault inner) rows i (unknown_fault rows i) e

pub unknown_value : (before : ℕ) (table : Table) (v : Values table) (front rest : List Item) (i : Item) → rises before table ≡ true → is_known table i ≡ false
    → values table v (front ++ i ∷ rest) ≡ values table v (front ++ rest)
unknown_value before End v front rest i e unknown = refl
unknown_value before (One n kind rows) v front rest i e unknown =
    let r = rising before n rows e in
    elim (cases_eq n i.number) [
      | inl same ↦
          pair _ _ _ _
          (ap (scalar kind v.0) (with_one n front rest i same)
          ∙ skip_scalar kind v.0 (contents n front) (contents n rest) i.content (sym (here n i.number (is_of kind i.content) (is_known rows i) same) ∙ unknown)
          ∙ ap (scalar kind v.0) (sym (contents-append n front rest)))
          (absent_value n rows v.1 front rest i r.rows_rise (omega (arith, same)))
      | inr other ↦
          pair _ _ _ _ (ap (scalar kind v.0) (without n front rest i other)) (unknown_value n rows v.1 front rest i r.rows_rise (sym (skip n i.number (is_of kind i.content) (is_known rows i) other) ∙ unknown))
    ]
unknown_value before (Message n inner rows) v front rest i e unknown =
    let r = rising_within before n inner rows e in
    elim (cases_eq n i.number) [
      | inl same ↦
          pair _ _ _ _
          (ap (merged (values inner) v.0) (skipped_bytes n front rest i same (sym (here n i.number (is_bytes i.content) (is_known rows i) same) ∙ unknown)))
          (absent_value n rows v.1 front rest i r.rows_rise (omega (arith, same)))
      | inr other ↦
          pair _ _ _ _ (ap (λ (cs : List Content). merged (values inner) v.0 (byte_lists cs)) (without n front rest i other)) (unknown_value n rows v.1 front rest i r.rows_rise (sym (skip n i.number (is_bytes i.content) (is_known rows i) other) ∙ unknown))
    ]
unknown_value before (Texts n rows) v front rest i e unknown =
    let r = rising before n rows e in
    elim (cases_eq n i.number) [
      | inl same ↦
          pair _ _ _ _
          (ap (λ (ps : List (List ℕ)). v.0 ++ ps) (skipped_bytes n front rest i same (sym (here n i.number (is_bytes i.content) (is_known rows i) same) ∙ unknown)))
          (absent_value n rows v.1 front rest i r.rows_rise (omega (arith, same)))
      | inr other ↦
          pair _ _ _ _ (ap (λ (cs : List Content). v.0 ++ byte_lists cs) (without n front rest i other)) (unknown_value n rows v.1 front rest i r.rows_rise (sym (skip n i.number (is_bytes i.content) (is_known rows i) other) ∙ unknown))
    ]
unknown_value before (Messages n inner rows) v front rest i e unknown =
    let r = rising_within before n inner rows e in
    let item : List ℕ → Values inner = λ bytes. values inner (empty inner) (fields bytes).items in
    elim (cases_eq n i.number) [
      | inl same ↦
          pair _ _ _ _
          (ap (λ (ps : List (List ℕ)). v.0 ++ map item ps) (skipped_bytes n front rest i same (sym (here n i.number (is_bytes i.content) (is_known rows i) same) ∙ unknown)))
          (absent_value n rows v.1 front rest i r.rows_rise (omega (arith, same)))
      | inr other ↦
          pair _ _ _ _ (ap (λ (cs : List Content). v.0 ++ map item (byte_lists cs)) (without n front rest i other)) (unknown_value n rows v.1 front rest i r.rows_rise (sym (skip n i.number (is_bytes i.content) (is_known rows i) other) ∙ unknown))
    ]

-- ---- the last one

-- from a content of the kind on, what there was before doesn't matter
fresh : (kind : Scalar) (v w : Val kind) (c : Content) (cs : List Content) → is_of kind c ≡ true → scalar kind v (c ∷ cs) ≡ scalar kind w (c ∷ cs)
fresh Int32 v w (Number n) cs e = refl
fresh Int64 v w (Number n) cs e = refl
fresh Uint32 v w (Number n) cs e = refl
fresh Uint64 v w (Number n) cs e = refl
fresh Enum v w (Number n) cs e = refl
fresh Boolean v w (Number n) cs e = refl
fresh Words v w (Number n) cs e = absurd cc
fresh Octets v w (Number n) cs e = absurd cc
fresh Digest v w (Number n) cs e = absurd cc
fresh Int32 v w (Bytes bytes) cs e = absurd cc
fresh Int64 v w (Bytes bytes) cs e = absurd cc
fresh Uint32 v w (Bytes bytes) cs e = absurd cc
fresh Uint64 v w (Bytes bytes) cs e = absurd cc
fresh Enum v w (Bytes bytes) cs e = absurd cc
fresh Boolean v w (Bytes bytes) cs e = absurd cc
fresh Words v w (Bytes bytes) cs e = refl
fresh Octets v w (Bytes bytes) cs e = refl
fresh Digest v w (Bytes bytes) cs e = refl
fresh Int32 v w (Eight bytes) cs e = absurd cc
fresh Int64 v w (Eight bytes) cs e = absurd cc
fresh Uint32 v w (Eight bytes) cs e = absurd cc
fresh Uint64 v w (Eight bytes) cs e = absurd cc
fresh Enum v w (Eight bytes) cs e = absurd cc
fresh Boolean v w (Eight bytes) cs e = absurd cc
fresh Words v w (Eight bytes) cs e = absurd cc
fresh Octets v w (Eight bytes) cs e = absurd cc
fresh Digest v w (Eight bytes) cs e = absurd cc
fresh Int32 v w (Four bytes) cs e = absurd cc
fresh Int64 v w (Four bytes) cs e = absurd cc
fresh Uint32 v w (Four bytes) cs e = absurd cc
fresh Uint64 v w (Four bytes) cs e = absurd cc
fresh Enum v w (Four bytes) cs e = absurd cc
fresh Boolean v w (Four bytes) cs e = absurd cc
fresh Words v w (Four bytes) cs e = absurd cc
fresh Octets v w (Four bytes) cs e = absurd cc
fresh Digest v w (Four bytes) cs e = absurd cc

last_of : (kind : Scalar) (v : Val kind) (xs ys : List Content) (a b : Content) (zs : List Content) → is_of kind b ≡ true
    → scalar kind v (xs ++ (a ∷ (ys ++ b ∷ zs))) ≡ scalar kind v (xs ++ (ys ++ b ∷ zs))
last_of kind v xs ys a b zs e =
    let longer : xs ++ (a ∷ (ys ++ b ∷ zs)) ≡ (xs ++ (a ∷ ys)) ++ b ∷ zs = sym (append_assoc xs (a ∷ ys) (b ∷ zs)) in
    let shorter : xs ++ (ys ++ b ∷ zs) ≡ (xs ++ ys) ++ b ∷ zs = sym (append_assoc xs ys (b ∷ zs)) in
    ap (scalar kind v) longer ∙ sym (scalar-append kind v (xs ++ (a ∷ ys)) (b ∷ zs))
    ∙ fresh kind (scalar kind v (xs ++ (a ∷ ys))) (scalar kind v (xs ++ ys)) b zs e
    ∙ scalar-append kind v (xs ++ ys) (b ∷ zs) ∙ ap (scalar kind v) (sym shorter)

no_single : (n m : ℕ) (further : Bool) → n ≡ m → (if n == m then false else further) ≡ true → ⊥
no_single n m further is e = let h : false ≡ true = sym (here n m false further is) ∙ e in cc

pub last_wins : (before : ℕ) (table : Table) (v : Values table) (front middle rest : List Item) (a b : Item) → rises before table ≡ true → is_single table a.number ≡ true → a.number ≡ b.number
    → is_known table b ≡ true → values table v (front ++ a ∷ (middle ++ b ∷ rest)) ≡ values table v (front ++ (middle ++ b ∷ rest))
last_wins before End v front middle rest a b e single same known = refl
last_wins before (One n kind rows) v front middle rest a b e single same known =
    let r = rising before n rows e in
    elim (cases_eq n a.number) [
      | inl is ↦
          let of_kind : is_of kind b.content ≡ true = sym (here n b.number (is_of kind b.content) (is_known rows b) (is ∙ same)) ∙ known in
          let longer = with_one n front (middle ++ b ∷ rest) a is ∙ ap (λ (cs : List Content). contents n front ++ (a.content ∷ cs)) (with_one n middle rest b (is ∙ same)) in
          let shorter = contents-append n front (middle ++ b ∷ rest) ∙ ap (λ (cs : List Content). contents n front ++ cs) (with_one n middle rest b (is ∙ same)) in
          pair _ _ _ _
          (ap (scalar kind v.0) longer ∙ last_of kind v.0 (contents n front) (contents n middle) a.content b.content (contents n rest) of_kind ∙ ap (scalar kind v.0) (sym shorter))
          (absent_value n rows v.1 front (middle ++ b ∷ rest) a r.rows_rise (omega (arith, is)))
      | inr other ↦
          pair _ _ _ _ (ap (scalar kind v.0) (without n front (middle ++ b ∷ rest) a other))
          (last_wins n rows v.1 front middle rest a b r.rows_rise (sym (skip n a.number true (is_single rows a.number) other) ∙ single) same
          (sym (skip n b.number (is_of kind b.content) (is_known rows b) (λ h. other (h ∙ sym same))) ∙ known))
    ]
last_wins before (Message n inner rows) v front middle rest a b e single same known =
    let r = rising_within before n inner rows e in
    elim (cases_eq n a.number) [
      | inl is ↦ absurd (no_single n a.number (is_single rows a.number) is single)
      | inr other ↦
          pair _ _ _ _ (ap (λ (cs : List Content). merged (values inner) v.0 (byte_lists cs)) (without n front (middle ++ b ∷ rest) a other))
          (last_wins n rows v.1 front middle rest a b r.rows_rise (sym (skip n a.number false (is_single rows a.number) other) ∙ single) same
          (sym (skip n b.number (is_bytes b.content) (is_known rows b) (λ h. other (h ∙ sym same))) ∙ known))
    ]
last_wins before (Texts n rows) v front middle rest a b e single same known =
    let r = rising before n rows e in
    elim (cases_eq n a.number) [
      | inl is ↦ absurd (no_single n a.number (is_single rows a.number) is single)
      | inr other ↦
          pair _ _ _ _ (ap (λ (cs : List Content). v.0 ++ byte_lists cs) (without n front (middle ++ b ∷ rest) a other))
          (last_wins n rows v.1 front middle rest a b r.rows_rise (sym (skip n a.number false (is_single rows a.number) other) ∙ single) same
          (sym (skip n b.number (is_bytes b.content) (is_known rows b) (λ h. other (h ∙ sym same))) ∙ known))
    ]
last_wins before (Messages n inner rows) v front middle rest a b e single same known =
    let r = rising_within before n inner rows e in
    let item : List ℕ → Values inner = λ bytes. values inner (empty inner) (fields bytes).items in
    elim (cases_eq n a.number) [
      | inl is ↦ absurd (no_single n a.number (is_single rows a.number) is single)
      | inr other ↦
          pair _ _ _ _ (ap (λ (cs : List Content). v.0 ++ map item (byte_lists cs)) (without n front (middle ++ b ∷ rest) a other))
          (last_wins n rows v.1 front middle rest a b r.rows_rise (sym (skip n a.number false (is_single rows a.number) other) ∙ single) same
          (sym (skip n b.number (is_bytes b.content) (is_known rows b) (λ h. other (h ∙ sym same))) ∙ known))
    ]
