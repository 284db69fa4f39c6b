-- The value of the written form of a message is the message.
use Rattle.std.proofs.Common.{◌≡◌, ℕ, ◌<◌, ◌≤◌, ◌^◌, ◌%◌, Bool, true, false, ℤ, pos, negsuc, List, [], ◌∷◌, ◌++◌, map, Ok, Option, refl, sym, ap, ◌∙◌, inl, inr, arith, append_assoc, FitsSigned}
use Rattle.std.specs.Int.{w32, w64, cast_signed, cast_unsigned}
use Rattle.std.specs.List.{AllByRecursion}
use Rattle.std.proofs.lemmas.Int.{to_z-of_z}
use Rattle.std.proofs.lemmas.Bool.{cases_eq, eq-eqb, ne_eqb}
use Rattle.std.proofs.lemmas.List.{append-nil}
use Rattle.bep_wire.specs.Content.{Content, Item}
use Rattle.bep_wire.specs.Fields.{Fields, fields}
use Rattle.bep_wire.proofs.Lemmas.{fields_none}
use Rattle.bep_messages.specs.declared.fault.MessageFault.{MessageFault}
use Rattle.bep_messages.specs.Tables.{Scalar, Int32, Int64, Uint32, Uint64, Enum, Boolean, Words, Octets, Digest, Table, End, One, Message, Texts, Messages, Val, Values, rises}
use Rattle.bep_messages.specs.Contents.{contents, numbers, byte_lists, last, low32, signed32, signed64, nonzero, zero_of, scalar, merged}
use Rattle.bep_messages.specs.Faults.{outcome}
use Rattle.bep_messages.specs.Values.{empty, values, value, decoded}
use Rattle.bep_messages.specs.Forms.{unsigned64, flag, form, IsShort, ScalarFits, Fits}
use Rattle.bep_messages.proofs.Words.{contents-append}
use Rattle.bep_messages.proofs.Absent.{rising, rising_within, here, skip}
use Rattle.bep_messages.proofs.Joins.{pair, values-none}
use Rattle.bep_messages.proofs.Says.{number_items, bytes_items, list_items, scalar_items, form_items, HaveNumber, AreAbove, scalar_number, bytes_number, list_number, form_above, wider, all_from, says_form, fine_form, alone, readable_form}

-- ---- the contents of a number among fields of others

abbrev pub AreUpTo : ℕ → List Item → Type 0
AreUpTo n items = AllByRecursion (λ i. i.number ≤ n) items

none_up_to : (before n : ℕ) (items : List Item) → before < n → AreUpTo before items → contents n items ≡ []
none_up_to before n [] lt h = refl
none_up_to before n (i ∷ items) lt h =
    skip n i.number (i.content ∷ contents n items) (contents n items) (λ same. omega (arith, same, h.0)) ∙ none_up_to before n items lt h.1

none_above : (n : ℕ) (items : List Item) → AreAbove n items → contents n items ≡ []
none_above n [] h = refl
none_above n (i ∷ items) h =
    skip n i.number (i.content ∷ contents n items) (contents n items) (λ same. omega (arith, same, h.0)) ∙ none_above n items h.1

all_of_row : (n : ℕ) (items : List Item) → HaveNumber n items → contents n items ≡ map (λ i. i.content) items
all_of_row n [] h = refl
all_of_row n (i ∷ items) h =
    here n i.number (i.content ∷ contents n items) (contents n items) (sym h.0) ∙ ap (λ (l : List Content). i.content ∷ l) (all_of_row n items h.1)

-- of fields with smaller numbers, a row, and fields with greater ones, the row's alone
of_row : (before n : ℕ) (front row rest : List Item) → before < n → AreUpTo before front → HaveNumber n row → AreAbove n rest
    → contents n (front ++ (row ++ rest)) ≡ map (λ i. i.content) row
of_row before n front row rest lt p q r =
    contents-append n front (row ++ rest) ∙ ap (λ (l : List Content). l ++ contents n (row ++ rest)) (none_up_to before n front lt p)
    ∙ contents-append n row rest ∙ ap (λ (l : List Content). contents n row ++ l) (none_above n rest r) ∙ append-nil (contents n row) ∙ all_of_row n row q

up_to_row : (before n : ℕ) (front row : List Item) → before < n → AreUpTo before front → HaveNumber n row → AreUpTo n (front ++ row)
up_to_row before n [] [] lt p q = tt
up_to_row before n [] (i ∷ row) lt p q = (omega (arith, q.0), up_to_row before n [] row lt tt q.1)
up_to_row before n (i ∷ front) row lt p q = (omega (arith, p.0), up_to_row before n front row lt p.1 q)

-- ---- one value back

-- a number whose 64 bits are 0 is 0
zero_bits : (z : ℤ) → FitsSigned w64 z → unsigned64 z ≡ 0 → pos 0 ≡ z
zero_bits z fits e = ap (cast_signed w64) (sym e) ∙ to_z-of_z w64 z fits

low_bits : (z : ℤ) → FitsSigned w32 z → unsigned64 z % 2 ^ 32 ≡ cast_unsigned w32 z
low_bits (pos n) fits = omega (arith, fits)
low_bits (negsuc n) fits = omega (arith, fits)

abbrev held : List Item → List Content
held items = map (λ i. i.content) items

back_int64 : (n : ℕ) (z : ℤ) → FitsSigned w64 z → last (pos 0) (map signed64 (numbers (held (number_items n (unsigned64 z))))) ≡ z
unfolding number_items
back_int64 n z fits =
    elim (cases_eq (unsigned64 z) 0) [
      | inl e ↦ let t = eq-eqb (unsigned64 z) 0 e in rw t (zero_bits z fits e)
      | inr e ↦ let t = ne_eqb (unsigned64 z) 0 e in rw t (to_z-of_z w64 z fits)
    ]

back_int32 : (n : ℕ) (z : ℤ) → FitsSigned w32 z → last (pos 0) (map signed32 (numbers (held (number_items n (unsigned64 z))))) ≡ z
unfolding number_items
back_int32 n z fits =
    let low = low_bits z fits in
    elim (cases_eq (unsigned64 z) 0) [
      | inl e ↦ let t = eq-eqb (unsigned64 z) 0 e in rw t (zero_bits z (wider z fits) e)
      | inr e ↦ let t = ne_eqb (unsigned64 z) 0 e in rw (t, low) (to_z-of_z w32 z fits)
    ]

back_uint64 : (n v : ℕ) → last 0 (numbers (held (number_items n v))) ≡ v
unfolding number_items
back_uint64 n v = elim (cases_eq v 0) [ inl e ↦ let t = eq-eqb v 0 e in rw t (sym e) | inr e ↦ let t = ne_eqb v 0 e in rw t refl ]

back_uint32 : (n v : ℕ) → v < 2 ^ 32 → last 0 (map low32 (numbers (held (number_items n v)))) ≡ v
unfolding number_items
back_uint32 n v lt =
    elim (cases_eq v 0) [
      | inl e ↦ let t = eq-eqb v 0 e in rw t (sym e)
      | inr e ↦ let t = ne_eqb v 0 e in let s : v % 2 ^ 32 ≡ v = omega (arith, lt) in rw (t, s) refl
    ]

back_boolean : (n : ℕ) (b : Bool) → last false (map nonzero (numbers (held (number_items n (flag b))))) ≡ b
unfolding number_items
back_boolean n true = refl
back_boolean n false = refl

back_bytes : (n : ℕ) (bytes : List ℕ) → last [] (byte_lists (held (bytes_items n bytes))) ≡ bytes
unfolding bytes_items
back_bytes n [] = refl
back_bytes n (b ∷ bytes) = refl

back_scalar : (n : ℕ) (kind : Scalar) (v : Val kind) → ScalarFits kind v → scalar kind (zero_of kind) (held (scalar_items n kind v)) ≡ v
back_scalar n Int32 z fits = back_int32 n z fits
back_scalar n Int64 z fits = back_int64 n z fits
back_scalar n Uint32 v fits = back_uint32 n v fits
back_scalar n Uint64 v fits = back_uint64 n v
back_scalar n Enum z fits = back_int32 n z fits
back_scalar n Boolean b fits = back_boolean n b
back_scalar n Words bytes fits = back_bytes n bytes
back_scalar n Octets bytes fits = back_bytes n bytes
back_scalar n Digest bytes fits = back_bytes n bytes

-- ---- messages and lists back

back_list : (n : ℕ) (xs : List (List ℕ)) → byte_lists (held (list_items n xs)) ≡ xs
unfolding list_items
back_list n [] = refl
back_list n (x ∷ xs) = ap (λ (l : List (List ℕ)). x ∷ l) (back_list n xs)

back_message : {A : Type 0} (n : ℕ) (after : A → List Item → A) (none x : A) (bytes : List ℕ) → after none [] ≡ none → after none (fields bytes).items ≡ x
    → (fields []).items ≡ [] → merged after none (byte_lists (held (bytes_items n bytes))) ≡ x
unfolding bytes_items
back_message n after none x [] e back empty_fields = sym e ∙ ap (after none) (sym empty_fields) ∙ back
back_message n after none x (b ∷ bytes) e back empty_fields = back

back_map : {A : Type 0} (form : A → List ℕ) (value : List ℕ → A) (xs : List A) → AllByRecursion (λ x. value (form x) ≡ x) xs → map value (map form xs) ≡ xs
back_map form value [] h = refl
back_map form value (x ∷ xs) h = rw (h.0, back_map form value xs h.1) refl

-- ---- tables

no_fields : (fields []).items ≡ []
no_fields = ap (λ (fs : Fields). fs.items) (fields_none [] refl)

-- from what the fields give back to what the written form does
read_back : (table : Table) (m : Values table) → rises 0 table ≡ true → Fits table m → values table (empty table) (form_items table m) ≡ m → value table (form table m) ≡ m
read_back table m e fits h = ap (λ (fs : Fields). values table (empty table) fs.items) (alone (says_form 0 table m e fits)) ∙ h

pub back : (before : ℕ) (table : Table) (v : Values table) (front : List Item) → rises before table ≡ true → Fits table v → AreUpTo before front
    → values table (empty table) (front ++ form_items table v) ≡ v
back before End v front e fits p = refl
back before (One n kind rows) v front e fits p =
    let r = rising before n rows e in
    let row = scalar_items n kind v.0 in
    let rest = form_items rows v.1 in
    pair _ v.0 _ v.1
    (ap (scalar kind (zero_of kind)) (of_row before n front row rest r.above p (scalar_number n kind v.0) (form_above n rows v.1 r.rows_rise)) ∙ back_scalar n kind v.0 fits.0)
    (ap (values rows (empty rows)) (sym (append_assoc front row rest)) ∙ back n rows v.1 (front ++ row) r.rows_rise fits.1 (up_to_row before n front row r.above p (scalar_number n kind v.0)))
back before (Message n inner rows) v front e fits p =
    let r = rising_within before n inner rows e in
    let row = bytes_items n (form inner v.0) in
    let rest = form_items rows v.1 in
    let again = read_back inner v.0 r.inner_rises fits.0.0 (back 0 inner v.0 [] r.inner_rises fits.0.0 tt) in
    pair _ v.0 _ v.1
    (ap (λ (cs : List Content). merged (values inner) (empty inner) (byte_lists cs)) (of_row before n front row rest r.above p (bytes_number n (form inner v.0)) (form_above n rows v.1 r.rows_rise))
    ∙ back_message n (values inner) (empty inner) v.0 (form inner v.0) (values-none inner (empty inner)) again no_fields)
    (ap (values rows (empty rows)) (sym (append_assoc front row rest)) ∙ back n rows v.1 (front ++ row) r.rows_rise fits.1 (up_to_row before n front row r.above p (bytes_number n (form inner v.0))))
back before (Texts n rows) v front e fits p =
    let r = rising before n rows e in
    let row = list_items n v.0 in
    let rest = form_items rows v.1 in
    pair _ v.0 _ v.1
    (ap byte_lists (of_row before n front row rest r.above p (list_number n v.0) (form_above n rows v.1 r.rows_rise)) ∙ back_list n v.0)
    (ap (values rows (empty rows)) (sym (append_assoc front row rest)) ∙ back n rows v.1 (front ++ row) r.rows_rise fits.1 (up_to_row before n front row r.above p (list_number n v.0)))
back before (Messages n inner rows) v front e fits p =
    let r = rising_within before n inner rows e in
    let row = list_items n (map (form inner) v.0) in
    let rest = form_items rows v.1 in
    let item : List ℕ → Values inner = λ bytes. values inner (empty inner) (fields bytes).items in
    let again = all_from (λ m. Fits inner m × IsShort (form inner m)) (λ m. value inner (form inner m) ≡ m)
    (λ m h. read_back inner m r.inner_rises h.0 (back 0 inner m [] r.inner_rises h.0 tt)) v.0 fits.0 in
    pair _ v.0 _ v.1
    (ap (λ (cs : List Content). map item (byte_lists cs)) (of_row before n front row rest r.above p (list_number n (map (form inner) v.0)) (form_above n rows v.1 r.rows_rise))
    ∙ ap (map item) (back_list n (map (form inner) v.0)) ∙ back_map (form inner) item v.0 again)
    (ap (values rows (empty rows)) (sym (append_assoc front row rest)) ∙ back n rows v.1 (front ++ row) r.rows_rise fits.1 (up_to_row before n front row r.above p (list_number n (map (form inner) v.0))))

-- the written form of what fits has no fault, and its value is the message
pub decoded_form : {M : Type 0} (table : Table) (message : Values table → M) (v : Values table) → rises 0 table ≡ true → Fits table v → decoded table message (form table v) ≡ Ok (message v)
decoded_form table message v e fits =
    let fine = readable_form table v (says_form 0 table v e fits) (fine_form 0 table v e fits) in
    let same = read_back table v e fits (back 0 table v [] e fits tt) in
    ap (λ (f : Option MessageFault). outcome f (message (value table (form table v)))) fine ∙ ap (λ (w : Values table). Ok (message w)) same
