-- A name with a mark put in before its extension.
use Rattle.std.proofs.Common.{◌≡◌, ◌↔◌, ℕ, ◌+◌, ◌-◌, ◌*◌, ◌/◌, ◌%◌, ◌^◌, ◌≤◌, ◌<◌, nat_lt, pos, true, IsTrue, List, ◌++◌, length, take, drop, refl, sym, ap, ◌∙◌, arith, append_assoc, length-append, drop-drop}
use Rattle.std.specs.Prelude.{◌≢◌, nat_eq, slice_range}
use Rattle.std.proofs.Math.Seq.{take-append_seam, drop-append_seam}
use Rattle.std.proofs.lemmas.Bool.{and_from, and_parts, cond_both, ltb-false, or_left, or_right, le-leb, ltb-true, eq-eqb, eqb-true}
use Rattle.std.proofs.lemmas.List.{take-append-drop}
use Rattle.std.proofs.lemmas.Slice.Eq.{bytes_eq-Decides}
use Rattle.sync_names.specs.Components.{folder_of, last_component}
use Rattle.sync_names.specs.Copies.{IsConflictCopy, is_base32_character, is_digit, is_mark, is_marked_at}
use Rattle.sync_names.specs.Extension.{stem_of, extension_of}
use Rattle.sync_names.specs.Base32.{base32_digit, base32_character}
use Rattle.sync_names.specs.Made.{conflict_mark, conflict_text}
use Rattle.sync_names.specs.Utc.{utc_time}
use Rattle.sync_names.proofs.UtcLemmas.{utc_time_shown}
use Rattle.sync_version.specs.declared.moment.TheConstants.Moment.{MAX_SECONDS}
use Rattle.jiff_core.proofs.CalendarLemmas.{days_in_month_bounds}
use Rattle.jiff_core.proofs.SignedLemmas.{signed_arith}
use Rattle.sync_names.proofs.BesideLemmas.{stem_and_extension}
use Rattle.sync_names.proofs.ComponentLemmas.{folder_and_last}

pub marked-from : (front back mark : List ℕ) → length mark ≡ 38 → IsTrue (is_mark mark)
    → IsTrue (is_marked_at (length front) (front ++ back) (front ++ mark ++ back))
marked-from front back mark long h =
    let text = front ++ mark ++ back in
    let both = length-append (front ++ mark) back in
    let first = length-append front mark in
    let name = length-append front back in
    let past : length front + 38 ≡ length (front ++ mark) = omega (arith, first, long) in
    let rest : drop (length front) text ≡ mark ++ back = ap (drop (length front)) (append_assoc front mark back) ∙ drop-append_seam front (mark ++ back) in
    let lengths : nat_eq (length text) (length (front ++ back) + 38) ≡ true = eq-eqb _ _ (omega (arith, both, first, name, long)) in
    let begins : take (length front) text ≡ take (length front) (front ++ back) = ap (take (length front)) (append_assoc front mark back) ∙ take-append_seam front (mark ++ back) ∙ sym (take-append_seam front back) in
    let ends : drop (length front + 38) text ≡ drop (length front) (front ++ back) = ap (λ n. drop n text) past ∙ drop-append_seam (front ++ mark) back ∙ sym (drop-append_seam front back) in
    let wide : length front + 38 - length front ≡ length mark = omega (arith, long) in
    let middle : slice_range text (length front) (length front + 38) ≡ mark = ap (λ n. take n (drop (length front) text)) wide ∙ ap (take (length mark)) rest ∙ take-append_seam mark back in
    and_from _ _ (and_from _ _ (and_from _ _ lengths ((bytes_eq-Decides _ _).1 begins)) ((bytes_eq-Decides _ _).1 ends)) (ap is_mark middle ∙ h)

pub mark-length : (mark : List ℕ) → IsTrue (is_mark mark) → length mark ≡ 38
mark-length mark h = eqb-true _ _ (and_parts _ _ (and_parts _ _ (and_parts _ _ h).0).0).0

pub marked-to : (front back text : List ℕ) → IsTrue (is_marked_at (length front) (front ++ back) text)
    → (mark : List ℕ) × IsTrue (is_mark mark) × (text ≡ front ++ mark ++ back)
marked-to front back text h =
    let i = length front in
    let wide : i + 38 - i ≡ 38 = omega arith in
    let parts = and_parts _ _ h in
    let three = and_parts _ _ parts.0 in
    let two = and_parts _ _ three.0 in
    let begins = (bytes_eq-Decides _ _).0 two.1 ∙ take-append_seam front back in
    let ends = (bytes_eq-Decides _ _).0 three.1 ∙ drop-append_seam front back in
    let mark = slice_range text i (i + 38) in
    let past : drop 38 (drop i text) ≡ back = drop-drop 38 i text ∙ ends in
    let middle : drop i text ≡ mark ++ back = sym (take-append-drop 38 (drop i text)) ∙ ap (λ x. take 38 (drop i text) ++ x) past ∙ ap (λ n. take n (drop i text) ++ back) (sym wide) in
    (mark, parts.1, sym (take-append-drop i text) ∙ ap (λ x. x ++ drop i text) begins ∙ ap (λ x. front ++ x) middle ∙ sym (append_assoc front mark back))

-- a name is its folder, its last component's stem and its extension
pub name_whole : (name : List ℕ) → name ≡ folder_of name ++ stem_of (last_component name) ++ extension_of (last_component name)
name_whole name =
    let last = last_component name in
    folder_and_last name ∙ ap (λ x. folder_of name ++ x) (stem_and_extension last) ∙ sym (append_assoc (folder_of name) (stem_of last) (extension_of last))

pub extension-within : (name : List ℕ) → length (extension_of (last_component name)) ≤ length name
extension-within name =
    let last = last_component name in
    omega (arith, ap length (name_whole name), length-append (folder_of name ++ stem_of last) (extension_of last))

pub copy-Decides : (name copy : List ℕ)
    → IsTrue (is_marked_at (length name - length (extension_of (last_component name))) name copy) ↔ IsConflictCopy name copy
copy-Decides name copy =
    let last = last_component name in
    let folder = folder_of name in
    let stem = stem_of last in
    let back = extension_of last in
    let front = folder ++ stem in
    let whole = name_whole name in
    let len : length name - length back ≡ length front = omega (arith, ap length whole, length-append front back) in
    let same : is_marked_at (length name - length back) name copy ≡ is_marked_at (length front) (front ++ back) copy
    = ap (λ n. is_marked_at n name copy) len ∙ ap (λ x. is_marked_at (length front) x copy) whole in
    let regroup : (mark : List ℕ) → front ++ mark ++ back ≡ folder ++ (stem ++ mark ++ back)
    = λ mark. ap (λ x. x ++ back) (append_assoc folder stem mark) ∙ append_assoc folder (stem ++ mark) back in (
      (λ h. let found = marked-to front back copy (sym same ∙ h) in (found.0, found.1, found.2 ∙ regroup found.0)),
      (λ x. let shaped : copy ≡ front ++ x.0 ++ back = x.2 ∙ sym (regroup x.0) in
          same ∙ ap (is_marked_at (length front) (front ++ back)) shaped ∙ marked-from front back x.0 (mark-length x.0 x.1) x.1),
    )

-- ---- the mark of a conflict copy is one

digit-is : (n : ℕ) → n < 10 → is_digit (48 + n) ≡ true
digit-is n h = and_from _ _ (le-leb 48 (48 + n) (omega arith)) (le-leb (48 + n) 57 (omega arith))

two-are : (n : ℕ) → n < 100 → (is_digit (48 + n / 10) ≡ true) × (is_digit (48 + n % 10) ≡ true)
two-are n h = (digit-is (n / 10) (omega arith), digit-is (n % 10) (omega arith))

base32-is : (value : ℕ) → value < 32 → is_base32_character (base32_digit value) ≡ true
base32-is value h =
    cond_both (nat_lt value 26) (65 + value) (50 + (value - 26)) (λ x. is_base32_character x ≡ true)
    (λ low. let less = ltb-true value 26 low in or_left _ _ (and_from _ _ (le-leb 65 (65 + value) (omega arith)) (le-leb (65 + value) 90 (omega arith))))
    (λ high. let more = ltb-false value 26 high in or_right _ _ (and_from _ _ (le-leb 50 (50 + (value - 26)) (omega arith)) (le-leb (50 + (value - 26)) 55 (omega arith))))

character-is : (number i : ℕ) → is_base32_character (base32_character number i) ≡ true
character-is number i = base32-is (number / 2 ^ (59 - 5 * i) % 32) (omega arith)

pub mark-is : (moment modified_by : ℕ) → moment ≤ MAX_SECONDS → is_mark (conflict_mark moment modified_by) ≡ true
mark-is moment modified_by h =
    let t = utc_time moment in
    let u = utc_time_shown moment h in
    let small : t.year ≤ 9999 = omega (arith, signed_arith, u.date.0) in
    let century = two-are (t.year / 100) (omega arith) in
    let year = two-are (t.year % 100) (omega arith) in
    let month = two-are t.month (omega (arith, u.date.1)) in
    let day = two-are t.day (omega (arith, u.date.2, days_in_month_bounds (pos t.year) t.month)) in
    let hour = two-are t.hour (omega (arith, u.hour)) in
    let minute = two-are t.minute (omega (arith, u.minute)) in
    let second = two-are t.second (omega (arith, u.second)) in
    let date = and_from _ _ century.0 (and_from _ _ century.1 (and_from _ _ year.0 (and_from _ _ year.1 (and_from _ _ month.0 (and_from _ _ month.1 (and_from _ _ day.0 (and_from _ _ day.1 refl))))))) in
    let time = and_from _ _ hour.0 (and_from _ _ hour.1 (and_from _ _ minute.0 (and_from _ _ minute.1 (and_from _ _ second.0 (and_from _ _ second.1 refl))))) in
    let c = character-is modified_by in
    let device = and_from _ _ (c 0) (and_from _ _ (c 1) (and_from _ _ (c 2) (and_from _ _ (c 3) (and_from _ _ (c 4) (and_from _ _ (c 5) (and_from _ _ (c 6) refl)))))) in
    and_from _ _ (and_from _ _ refl (and_from _ _ (and_from _ _ (and_from _ _ date refl) time) refl)) device

pub conflict_text-is_copy : (name : List ℕ) (moment modified_by : ℕ) → moment ≤ MAX_SECONDS → IsConflictCopy name (conflict_text name moment modified_by)
conflict_text-is_copy name moment modified_by h = (conflict_mark moment modified_by, mark-is moment modified_by h, refl)

pub copy-is_other : (name copy : List ℕ) → IsConflictCopy name copy → copy ≢ name
copy-is_other name copy x e =
    let last = last_component name in
    let long = mark-length x.0 x.1 in
    let here = ap length (x.2) in
    omega (arith, ap length e, here, long, extension-within name, ap length (name_whole name), length-append (folder_of name ++ stem_of last) (extension_of last), length-append (folder_of name) (stem_of last), length-append (folder_of name) (stem_of last ++ x.0 ++ extension_of last), length-append (stem_of last ++ x.0) (extension_of last), length-append (stem_of last) x.0)
