-- What a written form says when it is read: its fields, whatever follows.
use Rattle.std.proofs.Common.{◌≡◌, ℕ, ◌<◌, ◌^◌, List, [], ◌∷◌, ◌++◌, map, Option, None, refl, sym, ap, ◌∙◌, append_assoc, inl, inr, if◌then◌else◌, ◌==◌, arith, lit<, true, false, Bool, ℤ, pos, negsuc, FitsSigned}
use Rattle.std.specs.Int.{w32, w64}
use Rattle.std.specs.List.{AllByRecursion}
use Rattle.std.proofs.lemmas.Bool.{cases_eq, eq-eqb, ne_eqb}
use Rattle.std.proofs.lemmas.List.{append-nil}
use Rattle.std.proofs.lemmas.List.Concat.{flat_map-cons}
use Rattle.std.proofs.Math.Facts.{Fits-of_z}
use Rattle.bep_wire.specs.Content.{Number, Bytes, Item}
use Rattle.bep_wire.specs.Grammar.{IsNumber}
use Rattle.bep_wire.specs.Fields.{Fields, fields}
use Rattle.bep_wire.specs.Written.{bytes_field}
use Rattle.bep_wire.proofs.Lemmas.{fields_none, number_again, bytes_again}
use Rattle.bep_messages.specs.declared.fault.MessageFault.{MessageFault}
use Rattle.bep_messages.specs.Tables.{Scalar, Int32, Int64, Uint32, Uint64, Enum, Boolean, Words, Octets, Digest, Table, End, One, Message, Texts, Messages, Val, Values, rises}
use Rattle.bep_messages.specs.Faults.{first_fault, item_fault, scalar_fault, bytes_fault, text_fault, message_fault}
use Rattle.bep_messages.specs.Forms.{number_form, bytes_form, list_form, unsigned64, flag, scalar_form, form, IsShort, IsText, ScalarFits, Fits}
use Rattle.bep_messages.proofs.Absent.{rising, rising_within, top, here, skip, AreFine, no_first, none_then, fine_then}
use Rattle.bep_messages.proofs.Joins.{unreadable}
use Rattle.bep_messages.proofs.Texts.{text_fits}

-- ---- the fields of a row

abbrev pub number_item : ℕ → ℕ → Item
number_item n v = record { number = n; content = Number v }

abbrev pub bytes_item : ℕ → List ℕ → Item
bytes_item n bytes = record { number = n; content = Bytes bytes }

unfoldable pub number_items : ℕ → ℕ → List Item
number_items n v = if v == 0 then [] else number_item n v ∷ []

unfoldable pub bytes_items : ℕ → List ℕ → List Item
bytes_items n [] = []
bytes_items n (b ∷ bytes) = bytes_item n (b ∷ bytes) ∷ []

unfoldable pub list_items : ℕ → List (List ℕ) → List Item
list_items n [] = []
list_items n (x ∷ xs) = bytes_item n x ∷ list_items n xs

abbrev pub scalar_items : ℕ → (kind : Scalar) → Val kind → List Item
scalar_items n Int32 z = number_items n (unsigned64 z)
scalar_items n Int64 z = number_items n (unsigned64 z)
scalar_items n Uint32 v = number_items n v
scalar_items n Uint64 v = number_items n v
scalar_items n Enum z = number_items n (unsigned64 z)
scalar_items n Boolean b = number_items n (flag b)
scalar_items n Words bytes = bytes_items n bytes
scalar_items n Octets bytes = bytes_items n bytes
scalar_items n Digest bytes = bytes_items n bytes

abbrev pub form_items : (table : Table) → Values table → List Item
form_items End v = []
form_items (One n kind rows) v = scalar_items n kind v.0 ++ form_items rows v.1
form_items (Message n inner rows) v = bytes_items n (form inner v.0) ++ form_items rows v.1
form_items (Texts n rows) v = list_items n v.0 ++ form_items rows v.1
form_items (Messages n inner rows) v = list_items n (map (form inner) v.0) ++ form_items rows v.1

-- ---- their numbers

abbrev pub HaveNumber : ℕ → List Item → Type 0
HaveNumber n items = AllByRecursion (λ i. i.number ≡ n) items

abbrev pub AreAbove : ℕ → List Item → Type 0
AreAbove n items = AllByRecursion (λ i. n < i.number) items

pub number_number : (n v : ℕ) → HaveNumber n (number_items n v)
unfolding number_items
number_number n v =
    elim (cases_eq v 0) [
      | inl e ↦ let t = eq-eqb v 0 e in rw t tt
      | inr e ↦ let t = ne_eqb v 0 e in rw t (refl, tt)
    ]

pub bytes_number : (n : ℕ) (bytes : List ℕ) → HaveNumber n (bytes_items n bytes)
unfolding bytes_items
bytes_number n [] = tt
bytes_number n (b ∷ bytes) = (refl, tt)

pub list_number : (n : ℕ) (xs : List (List ℕ)) → HaveNumber n (list_items n xs)
unfolding list_items
list_number n [] = tt
list_number n (x ∷ xs) = (refl, list_number n xs)

pub scalar_number : (n : ℕ) (kind : Scalar) (v : Val kind) → HaveNumber n (scalar_items n kind v)
scalar_number n Int32 z = number_number n (unsigned64 z)
scalar_number n Int64 z = number_number n (unsigned64 z)
scalar_number n Uint32 v = number_number n v
scalar_number n Uint64 v = number_number n v
scalar_number n Enum z = number_number n (unsigned64 z)
scalar_number n Boolean b = number_number n (flag b)
scalar_number n Words bytes = bytes_number n bytes
scalar_number n Octets bytes = bytes_number n bytes
scalar_number n Digest bytes = bytes_number n bytes

above_row : (before n : ℕ) (items : List Item) → before < n → HaveNumber n items → AreAbove before items
above_row before n [] lt h = tt
above_row before n (i ∷ items) lt h = (omega (arith, h.0), above_row before n items lt h.1)

above_both : (n : ℕ) (xs ys : List Item) → AreAbove n xs → AreAbove n ys → AreAbove n (xs ++ ys)
above_both n [] ys p q = q
above_both n (x ∷ xs) ys p q = (p.0, above_both n xs ys p.1 q)

above_less : (before n : ℕ) (items : List Item) → before < n → AreAbove n items → AreAbove before items
above_less before n [] lt h = tt
above_less before n (i ∷ items) lt h = (omega (arith, h.0), above_less before n items lt h.1)

pub form_above : (before : ℕ) (table : Table) (v : Values table) → rises before table ≡ true → AreAbove before (form_items table v)
form_above before End v e = tt
form_above before (One n kind rows) v e =
    let r = rising before n rows e in
    above_both before (scalar_items n kind v.0) (form_items rows v.1) (above_row before n _ r.above (scalar_number n kind v.0)) (above_less before n _ r.above (form_above n rows v.1 r.rows_rise))
form_above before (Message n inner rows) v e =
    let r = rising_within before n inner rows e in
    above_both before (bytes_items n (form inner v.0)) (form_items rows v.1) (above_row before n _ r.above (bytes_number n (form inner v.0))) (above_less before n _ r.above (form_above n rows v.1 r.rows_rise))
form_above before (Texts n rows) v e =
    let r = rising before n rows e in
    above_both before (list_items n v.0) (form_items rows v.1) (above_row before n _ r.above (list_number n v.0)) (above_less before n _ r.above (form_above n rows v.1 r.rows_rise))
form_above before (Messages n inner rows) v e =
    let r = rising_within before n inner rows e in
    above_both before (list_items n (map (form inner) v.0)) (form_items rows v.1) (above_row before n _ r.above (list_number n (map (form inner) v.0))) (above_less before n _ r.above (form_above n rows v.1 r.rows_rise))

-- ---- what is read of it

-- these bytes are these fields, whatever follows
pub record Says (text : List ℕ) (items : List Item) : Type 0 where
  pub again : (rest : List ℕ) → fields (text ++ rest) ≡ record { items = items ++ (fields rest).items; fault = (fields rest).fault }

pub says_then : {a : List ℕ} {xs : List Item} {b : List ℕ} {ys : List Item} → Says a xs → Says b ys → Says (a ++ b) (xs ++ ys)
says_then {a} {xs} {b} {ys} p q = record {
  again = λ rest.
      ap fields (append_assoc a b rest) ∙ p.again (b ++ rest) ∙ ap (λ (fs : Fields). record { items = xs ++ fs.items; fault = fs.fault }) (q.again rest)
      ∙ ap (λ (l : List Item). record { items = l; fault = (fields rest).fault }) (sym (append_assoc xs ys (fields rest).items));
}

says_none : Says [] []
says_none = record { again = λ rest. refl }

pub says_number : (n v : ℕ) → IsNumber n → v < 2 ^ 64 → Says (number_form n v) (number_items n v)
unfolding number_form number_items
says_number n v is lt =
    elim (cases_eq v 0) [
      | inl e ↦ let t = eq-eqb v 0 e in rw t says_none
      | inr e ↦ let t = ne_eqb v 0 e in rw t (record { again = λ rest. number_again n v rest is lt })
    ]

pub says_bytes : (n : ℕ) (bytes : List ℕ) → IsNumber n → IsShort bytes → Says (bytes_form n bytes) (bytes_items n bytes)
unfolding bytes_form bytes_items
says_bytes n [] is short = says_none
says_bytes n (b ∷ bytes) is short = record { again = λ rest. bytes_again n (b ∷ bytes) rest is short }

pub says_list : {A : Type 0} (n : ℕ) (form : A → List ℕ) (xs : List A) → IsNumber n → AllByRecursion (λ x. IsShort (form x)) xs → Says (list_form n form xs) (list_items n (map form xs))
unfolding list_form list_items
says_list n form [] is short = says_none
says_list n form (x ∷ xs) is short =
    let first : Says (bytes_field n (form x)) (bytes_item n (form x) ∷ []) = record { again = λ rest. bytes_again n (form x) rest is short.0 } in
    rw flat_map-cons (says_then first (says_list n form xs is short.1))

-- ---- tables

bits_fit : (z : ℤ) → FitsSigned w64 z → unsigned64 z < 2 ^ 64
bits_fit z fits = (Fits-of_z fits).fits

pub wider : (z : ℤ) → FitsSigned w32 z → FitsSigned w64 z
wider (pos n) fits = omega (arith, fits)
wider (negsuc n) fits = omega (arith, fits)

flag_fits : (b : Bool) → flag b < 2 ^ 64
flag_fits true = lit< tt
flag_fits false = lit< tt

says_scalar : (n : ℕ) (kind : Scalar) (v : Val kind) → IsNumber n → ScalarFits kind v → Says (scalar_form n kind v) (scalar_items n kind v)
says_scalar n Int32 z is fits = says_number n (unsigned64 z) is (bits_fit z (wider z fits))
says_scalar n Int64 z is fits = says_number n (unsigned64 z) is (bits_fit z fits)
says_scalar n Uint32 v is fits = says_number n v is (omega (arith, fits))
says_scalar n Uint64 v is fits = says_number n v is fits
says_scalar n Enum z is fits = says_number n (unsigned64 z) is (bits_fit z (wider z fits))
says_scalar n Boolean b is fits = says_number n (flag b) is (flag_fits b)
says_scalar n Words bytes is fits = says_bytes n bytes is fits.1
says_scalar n Octets bytes is fits = says_bytes n bytes is fits
says_scalar n Digest bytes is fits = says_bytes n bytes is fits

pub all_from : {A : Type 0} (P Q : A → Type 0) → ((x : A) → P x → Q x) → (xs : List A) → AllByRecursion P xs → AllByRecursion Q xs
all_from P Q h [] all = tt
all_from P Q h (x ∷ xs) all = (h x all.0, all_from P Q h xs all.1)

pub map_id : (xs : List (List ℕ)) → map (λ t. t) xs ≡ xs
map_id [] = refl
map_id (x ∷ xs) = ap (λ (l : List (List ℕ)). x ∷ l) (map_id xs)

is_number : (before n : ℕ) (rows : Table) → before < n → rises n rows ≡ true → IsNumber n
is_number before n rows lt e = (omega arith, top n rows e)

pub says_form : (before : ℕ) (table : Table) (v : Values table) → rises before table ≡ true → Fits table v → Says (form table v) (form_items table v)
says_form before End v e fits = says_none
says_form before (One n kind rows) v e fits =
    let r = rising before n rows e in
    says_then (says_scalar n kind v.0 (is_number before n rows r.above r.rows_rise) fits.0) (says_form n rows v.1 r.rows_rise fits.1)
says_form before (Message n inner rows) v e fits =
    let r = rising_within before n inner rows e in
    says_then (says_bytes n (form inner v.0) (is_number before n rows r.above r.rows_rise) fits.0.1) (says_form n rows v.1 r.rows_rise fits.1)
says_form before (Texts n rows) v e fits =
    let r = rising before n rows e in
    let texts : Says (list_form n (λ t. t) v.0) (list_items n (map (λ t. t) v.0)) = says_list n (λ t. t) v.0 (is_number before n rows r.above r.rows_rise) (all_from IsText IsShort (λ t h. h.1) v.0 fits.0) in
    says_then (rw (map_id v.0) at texts) (says_form n rows v.1 r.rows_rise fits.1)
says_form before (Messages n inner rows) v e fits =
    let r = rising_within before n inner rows e in
    says_then
    (says_list n (form inner) v.0 (is_number before n rows r.above r.rows_rise) (all_from (λ m. Fits inner m × IsShort (form inner m)) (λ m. IsShort (form inner m)) (λ m h. h.1) v.0 fits.0))
    (says_form n rows v.1 r.rows_rise fits.1)

-- ---- and no field has a fault

fine_row : (fault : Item → Option MessageFault) (n : ℕ) (rows : Table) (items : List Item) → HaveNumber n items → AllByRecursion (λ i. fault i ≡ None) items
    → AreFine (λ i. if n == i.number then fault i else item_fault rows i) items
fine_row fault n rows [] have fine = refl
fine_row fault n rows (i ∷ items) have fine =
    none_then _ _ (here n i.number (fault i) (item_fault rows i) (sym have.0) ∙ fine.0) (fine_row fault n rows items have.1 fine.1)

fine_rest : (fault : Item → Option MessageFault) (n : ℕ) (rows : Table) (items : List Item) → AreAbove n items → AreFine (item_fault rows) items
    → AreFine (λ i. if n == i.number then fault i else item_fault rows i) items
fine_rest fault n rows [] above fine = refl
fine_rest fault n rows (i ∷ items) above fine =
    let h = no_first (item_fault rows i) (first_fault (item_fault rows) items None) fine in
    none_then _ _ (skip n i.number (fault i) (item_fault rows i) (λ same. omega (arith, same, above.0)) ∙ h.0) (fine_rest fault n rows items above.1 h.1)

fine_numbers : (n v : ℕ) (fault : Item → Option MessageFault) → ((m : ℕ) → fault (number_item n m) ≡ None) → AllByRecursion (λ i. fault i ≡ None) (number_items n v)
unfolding number_items
fine_numbers n v fault h =
    elim (cases_eq v 0) [
      | inl e ↦ let t = eq-eqb v 0 e in rw t tt
      | inr e ↦ let t = ne_eqb v 0 e in rw t (h v, tt)
    ]

fine_bytes : (n : ℕ) (bytes : List ℕ) (fault : Item → Option MessageFault) → fault (bytes_item n bytes) ≡ None → AllByRecursion (λ i. fault i ≡ None) (bytes_items n bytes)
unfolding bytes_items
fine_bytes n [] fault h = tt
fine_bytes n (b ∷ bytes) fault h = (h, tt)

fine_list : {A : Type 0} (n : ℕ) (form : A → List ℕ) (xs : List A) (fault : Item → Option MessageFault) → AllByRecursion (λ x. fault (bytes_item n (form x)) ≡ None) xs → AllByRecursion (λ i. fault i ≡ None) (list_items n (map form xs))
unfolding list_items
fine_list n form [] fault h = tt
fine_list n form (x ∷ xs) fault h = (h.0, fine_list n form xs fault h.1)

fine_scalar : (n : ℕ) (kind : Scalar) (v : Val kind) → ScalarFits kind v → AllByRecursion (λ i. scalar_fault kind i.content ≡ None) (scalar_items n kind v)
fine_scalar n Int32 z fits = fine_numbers n (unsigned64 z) (λ i. scalar_fault Int32 i.content) (λ m. refl)
fine_scalar n Int64 z fits = fine_numbers n (unsigned64 z) (λ i. scalar_fault Int64 i.content) (λ m. refl)
fine_scalar n Uint32 v fits = fine_numbers n v (λ i. scalar_fault Uint32 i.content) (λ m. refl)
fine_scalar n Uint64 v fits = fine_numbers n v (λ i. scalar_fault Uint64 i.content) (λ m. refl)
fine_scalar n Enum z fits = fine_numbers n (unsigned64 z) (λ i. scalar_fault Enum i.content) (λ m. refl)
fine_scalar n Boolean b fits = fine_numbers n (flag b) (λ i. scalar_fault Boolean i.content) (λ m. refl)
fine_scalar n Words bytes fits = fine_bytes n bytes (λ i. scalar_fault Words i.content) (text_fits bytes fits.0)
fine_scalar n Octets bytes fits = fine_bytes n bytes (λ i. scalar_fault Octets i.content) refl
fine_scalar n Digest bytes fits = fine_bytes n bytes (λ i. scalar_fault Digest i.content) refl

-- bytes that are just these fields
pub alone : {text : List ℕ} {items : List Item} → Says text items → fields text ≡ record { items = items; fault = None }
alone {text} {items} s =
    ap fields (sym (append-nil text)) ∙ s.again [] ∙ ap (λ (fs : Fields). record { items = items ++ fs.items; fault = fs.fault }) (fields_none [] refl) ∙ ap (λ (l : List Item). record { items = l; fault = None }) (append-nil items)

pub readable_form : (table : Table) (v : Values table) → Says (form table v) (form_items table v) → AreFine (item_fault table) (form_items table v) → message_fault table (form table v) ≡ None
readable_form table v says fine =
    let all = alone says in
    unreadable table (form table v) (ap (λ (fs : Fields). fs.fault) all) (rw (ap (λ (fs : Fields). fs.items) all) fine)

pub fine_form : (before : ℕ) (table : Table) (v : Values table) → rises before table ≡ true → Fits table v → AreFine (item_fault table) (form_items table v)
fine_form before End v e fits = refl
fine_form before (One n kind rows) v e fits =
    let r = rising before n rows e in
    fine_then (item_fault (One n kind rows)) (scalar_items n kind v.0) (form_items rows v.1)
    (fine_row (λ i. scalar_fault kind i.content) n rows (scalar_items n kind v.0) (scalar_number n kind v.0) (fine_scalar n kind v.0 fits.0))
    (fine_rest (λ i. scalar_fault kind i.content) n rows (form_items rows v.1) (form_above n rows v.1 r.rows_rise) (fine_form n rows v.1 r.rows_rise fits.1))
fine_form before (Message n inner rows) v e fits =
    let r = rising_within before n inner rows e in
    let inner_fault : Item → Option MessageFault = λ i. bytes_fault (message_fault inner) i.content in
    let readable = readable_form inner v.0 (says_form 0 inner v.0 r.inner_rises fits.0.0) (fine_form 0 inner v.0 r.inner_rises fits.0.0) in
    fine_then (item_fault (Message n inner rows)) (bytes_items n (form inner v.0)) (form_items rows v.1)
    (fine_row inner_fault n rows (bytes_items n (form inner v.0)) (bytes_number n (form inner v.0)) (fine_bytes n (form inner v.0) inner_fault readable))
    (fine_rest inner_fault n rows (form_items rows v.1) (form_above n rows v.1 r.rows_rise) (fine_form n rows v.1 r.rows_rise fits.1))
fine_form before (Texts n rows) v e fits =
    let r = rising before n rows e in
    let text_fault_of : Item → Option MessageFault = λ i. bytes_fault text_fault i.content in
    let texts = fine_list n (λ t. t) v.0 text_fault_of (all_from IsText (λ t. text_fault t ≡ None) (λ t h. text_fits t h.0) v.0 fits.0) in
    fine_then (item_fault (Texts n rows)) (list_items n v.0) (form_items rows v.1)
    (fine_row text_fault_of n rows (list_items n v.0) (list_number n v.0) (rw (map_id v.0) at texts))
    (fine_rest text_fault_of n rows (form_items rows v.1) (form_above n rows v.1 r.rows_rise) (fine_form n rows v.1 r.rows_rise fits.1))
fine_form before (Messages n inner rows) v e fits =
    let r = rising_within before n inner rows e in
    let inner_fault : Item → Option MessageFault = λ i. bytes_fault (message_fault inner) i.content in
    let each = all_from (λ m. Fits inner m × IsShort (form inner m)) (λ m. message_fault inner (form inner m) ≡ None)
    (λ m h. readable_form inner m (says_form 0 inner m r.inner_rises h.0) (fine_form 0 inner m r.inner_rises h.0)) v.0 fits.0 in
    fine_then (item_fault (Messages n inner rows)) (list_items n (map (form inner) v.0)) (form_items rows v.1)
    (fine_row inner_fault n rows (list_items n (map (form inner) v.0)) (list_number n (map (form inner) v.0)) (fine_list n (form inner) v.0 inner_fault each))
    (fine_rest inner_fault n rows (form_items rows v.1) (form_above n rows v.1 r.rows_rise) (fine_form n rows v.1 r.rows_rise fits.1))
