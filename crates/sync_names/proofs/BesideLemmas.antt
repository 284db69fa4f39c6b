-- The names that a folder makes are in the folder of their name.
use Rattle.std.proofs.Common.{◌≡◌, ◌≢◌, ℕ, ◌+◌, ◌-◌, ◌*◌, ◌/◌, ◌%◌, ◌^◌, ◌<◌, ◌⊎◌, Bool, true, false, not, ◌&&◌, nat_lt, eqb, List, [], ◌∷◌, ◌++◌, length, get_or, drop, map, refl, sym, ap, ◌∙◌, subst, arith, append-nil, length-append, inl, inr}
use Rattle.std.specs.Prelude.{codes}
use Rattle.std.specs.List.{list_any, list_all}
use Rattle.std.proofs.lemmas.Bool.{and_from, and_parts, eq-eqb, or_from, or_parts, ne_eqb, eqb-false, not-true, not_from_false, cond_both, false≢true}
use Rattle.std.proofs.lemmas.List.{take-append-drop, drop_more}
use Rattle.std.proofs.lemmas.List.Elements.{All-from_get_or}
use Rattle.std.proofs.lemmas.List.Folds.{list_any-append, list_any_none, list_any_at, list_all-append}
use Rattle.std.proofs.lemmas.List.Sums.{AllPass-from_list_all}
use Rattle.sync_names.specs.Base32.{base32_digit, base32_character, short_base32}
use Rattle.sync_names.specs.Components.{folder_of, folder_components, last_component, all_but_last, last_of}
use Rattle.sync_names.specs.Extension.{stem_of, extension_of}
use Rattle.sync_names.specs.Made.{temp_text, conflict_mark, conflict_text}
use Rattle.sync_names.specs.Utc.{utc_time, two_digits, four_digits, date_digits, time_digits}
use Rattle.sync_names.proofs.ComponentLemmas.{HasNo, last_place, none_after, last_component-no_slash, components-beside, all_but_last-push, last_of-push, folder_and_last}
use Rattle.sync_names.proofs.ExtensionLemmas.{cut_at_dot, cut_without_dot}

-- ---- where a byte doesn't stand

none_tested : (c : ℕ) (xs : List ℕ) → HasNo c xs → list_any (λ b. eqb b c) xs ≡ false
none_tested c xs none =
    list_any_none (λ b. eqb b c) xs (All-from_get_or (λ b. eqb b c ≡ false) xs 0 (λ i h. ne_eqb (get_or xs i 0) c (none i h)))

pub tested_none : (c : ℕ) (xs : List ℕ) → list_any (λ b. eqb b c) xs ≡ false → HasNo c xs
tested_none c xs h i lt e = false≢true (sym h ∙ list_any_at (λ b. eqb b c) xs i 0 lt (eq-eqb (get_or xs i 0) c e))

pub HasNo-append : (c : ℕ) (xs ys : List ℕ) → HasNo c xs → HasNo c ys → HasNo c (xs ++ ys)
HasNo-append c xs ys h k =
    tested_none c (xs ++ ys) (list_any-append (λ b. eqb b c) xs ys ∙ or_from _ _ (none_tested c xs h) (none_tested c ys k))

pub HasNo-parts : (c : ℕ) (xs ys : List ℕ) → HasNo c (xs ++ ys) → HasNo c xs × HasNo c ys
HasNo-parts c xs ys h =
    let both = or_parts _ _ (sym (list_any-append (λ b. eqb b c) xs ys) ∙ none_tested c (xs ++ ys) h) in
    (tested_none c xs both.0, tested_none c ys both.1)

-- ---- a stem and an extension

pub stem_and_extension : (component : List ℕ) → component ≡ stem_of component ++ extension_of component
stem_and_extension component =
    elim (last_place 46 component) [
      | inl none ↦
          let cut = cut_without_dot component none in
          sym ((λ i. cut.stem i ++ cut.extension i) ∙ append-nil component)
      | inr at ↦
          let cut = cut_at_dot component at.0 at.1 in
          sym ((λ i. cut.stem i ++ cut.extension i) ∙ take-append-drop at.0 component)
    ]

-- the extension is nothing, or a dot and no dot after it
pub extension-shape : (component : List ℕ) → (extension_of component ≡ []) ⊎ ((rest : List ℕ) × (extension_of component ≡ 46 ∷ rest) × HasNo 46 rest)
extension-shape component =
    elim (last_place 46 component) [
      | inl none ↦ inl (cut_without_dot component none).extension
      | inr at ↦
          let k = at.0 in
          let dot = drop_more component k 0 at.1.within ∙ ap (λ (x : ℕ). x ∷ drop (k + 1) component) at.1.here in
          inr (drop (k + 1) component, (cut_at_dot component k at.1).extension ∙ dot, none_after 46 component k at.1.later)
    ]

-- ---- the bytes of the mark in a conflict copy's name: neither a slash nor a NUL

abbrev pub is_plain : ℕ → Bool
is_plain b = not (eqb b 47) && not (eqb b 0)

plain_above : (b : ℕ) → 47 < b → is_plain b ≡ true
plain_above b h = and_from _ _ (not_from_false _ (ne_eqb b 47 (λ e. omega arith))) (not_from_false _ (ne_eqb b 0 (λ e. omega arith)))

plain_two_digits : (n : ℕ) → list_all is_plain (two_digits n) ≡ true
plain_two_digits n =
    and_from _ _ (plain_above (48 + n / 10) (omega arith)) (and_from _ _ (plain_above (48 + n % 10) (omega arith)) refl)

pub digit_bounds : (value : ℕ) → 49 < base32_digit value
digit_bounds value =
    cond_both (nat_lt value 26) (65 + value) (50 + (value - 26)) (λ x. 49 < x) (λ _. omega arith) (λ _. omega arith)

all_both : (xs ys : List ℕ) → list_all is_plain xs ≡ true → list_all is_plain ys ≡ true → list_all is_plain (xs ++ ys) ≡ true
all_both xs ys h k = list_all-append is_plain xs ys ∙ and_from _ _ h k

plain_characters : (number : ℕ) (places : List ℕ) → list_all is_plain (map (base32_character number) places) ≡ true
plain_characters number [] = refl
plain_characters number (i ∷ places) =
    and_from _ _ (plain_above (base32_character number i) (let b = digit_bounds (number / 2 ^ (59 - 5 * i) % 32) in omega arith)) (plain_characters number places)

pub plain_mark : (moment modified_by : ℕ) → list_all is_plain (conflict_mark moment modified_by) ≡ true
plain_mark moment modified_by =
    let t = utc_time moment in
    let year = all_both (two_digits (t.year / 100)) (two_digits (t.year % 100)) (plain_two_digits (t.year / 100)) (plain_two_digits (t.year % 100)) in
    let date = all_both (four_digits t.year ++ two_digits t.month) (two_digits t.day) (all_both (four_digits t.year) (two_digits t.month) year (plain_two_digits t.month)) (plain_two_digits t.day) in
    let time = all_both (two_digits t.hour ++ two_digits t.minute) (two_digits t.second) (all_both (two_digits t.hour) (two_digits t.minute) (plain_two_digits t.hour) (plain_two_digits t.minute)) (plain_two_digits t.second) in
    let a = all_both (codes ".sync-conflict-") (date_digits t) refl date in
    let b = all_both (codes ".sync-conflict-" ++ date_digits t) (codes "-") a refl in
    let c = all_both (codes ".sync-conflict-" ++ date_digits t ++ codes "-") (time_digits t) b time in
    let d = all_both (codes ".sync-conflict-" ++ date_digits t ++ codes "-" ++ time_digits t) (codes "-") c refl in
    all_both (codes ".sync-conflict-" ++ date_digits t ++ codes "-" ++ time_digits t ++ codes "-") (short_base32 modified_by) d (plain_characters modified_by (0 ∷ 1 ∷ 2 ∷ 3 ∷ 4 ∷ 5 ∷ 6 ∷ []))

pub plain-HasNo_slash : (xs : List ℕ) → list_all is_plain xs ≡ true → HasNo 47 xs
plain-HasNo_slash xs h i lt e =
    let at = and_parts _ _ (AllPass-from_list_all is_plain xs h i 0 lt) in eqb-false (get_or xs i 0) 47 (not-true _ at.0) e

pub plain-HasNo_nul : (xs : List ℕ) → list_all is_plain xs ≡ true → HasNo 0 xs
plain-HasNo_nul xs h i lt e =
    let at = and_parts _ _ (AllPass-from_list_all is_plain xs h i 0 lt) in eqb-false (get_or xs i 0) 0 (not-true _ at.1) e

pub length_mark : (moment modified_by : ℕ) → length (conflict_mark moment modified_by) ≡ 38
length_mark moment modified_by = refl

-- ---- the last components of made names

pub temp_last-no_slash : (name : List ℕ) → HasNo 47 (codes ".syncthing." ++ last_component name ++ codes ".tmp")
temp_last-no_slash name =
    HasNo-append 47 (codes ".syncthing." ++ last_component name) (codes ".tmp")
    (HasNo-append 47 (codes ".syncthing.") (last_component name) (tested_none 47 (codes ".syncthing.") refl) (last_component-no_slash name))
    (tested_none 47 (codes ".tmp") refl)

pub HasNo-cut : (c : ℕ) (component : List ℕ) → HasNo c component → HasNo c (stem_of component) × HasNo c (extension_of component)
HasNo-cut c component none =
    HasNo-parts c (stem_of component) (extension_of component) (subst (HasNo c) (stem_and_extension component) none)

pub conflict_last-no : (c : ℕ) (component mark : List ℕ) → HasNo c component → HasNo c mark → HasNo c (stem_of component ++ mark ++ extension_of component)
conflict_last-no c component mark none plain =
    let parts = HasNo-cut c component none in
    HasNo-append c (stem_of component ++ mark) (extension_of component) (HasNo-append c (stem_of component) mark parts.0 plain) parts.1

pub record IsBeside (name made last : List ℕ) : Type 0 where
  pub folder : folder_components made ≡ folder_components name
  pub named : last_component made ≡ last

beside : (name last : List ℕ) → HasNo 47 last → IsBeside name (folder_of name ++ last) last
beside name last none = record {
  folder = ap all_but_last (components-beside name last none) ∙ all_but_last-push (folder_components name) last;
  named = ap last_of (components-beside name last none) ∙ last_of-push (folder_components name) last;
}

pub temp_beside : (name : List ℕ) → IsBeside name (temp_text name) (codes ".syncthing." ++ last_component name ++ codes ".tmp")
temp_beside name = beside name (codes ".syncthing." ++ last_component name ++ codes ".tmp") (temp_last-no_slash name)

pub conflict_last-no_slash : (name : List ℕ) (moment modified_by : ℕ) → HasNo 47 (stem_of (last_component name) ++ conflict_mark moment modified_by ++ extension_of (last_component name))
conflict_last-no_slash name moment modified_by =
    conflict_last-no 47 (last_component name) (conflict_mark moment modified_by) (last_component-no_slash name) (plain-HasNo_slash (conflict_mark moment modified_by) (plain_mark moment modified_by))

pub conflict_beside : (name : List ℕ) (moment modified_by : ℕ) → IsBeside name (conflict_text name moment modified_by) (stem_of (last_component name) ++ conflict_mark moment modified_by ++ extension_of (last_component name))
conflict_beside name moment modified_by =
    beside name (stem_of (last_component name) ++ conflict_mark moment modified_by ++ extension_of (last_component name)) (conflict_last-no_slash name moment modified_by)

-- ---- a conflict copy's name is longer than its name

pub length-conflict : (name : List ℕ) (moment modified_by : ℕ) → length (conflict_text name moment modified_by) ≡ length name + 38
length-conflict name moment modified_by =
    let last = last_component name in
    let mark = conflict_mark moment modified_by in
    omega (
      arith,
      length_mark moment modified_by,
      ap length (folder_and_last name),
      ap length (stem_and_extension last),
      length-append (folder_of name) last,
      length-append (stem_of last) (extension_of last),
      length-append (folder_of name) (stem_of last ++ mark ++ extension_of last),
      length-append (stem_of last ++ mark) (extension_of last),
      length-append (stem_of last) mark,
    )

pub conflict-differs : (name : List ℕ) (moment modified_by : ℕ) → conflict_text name moment modified_by ≢ name
conflict-differs name moment modified_by e =
    absurd (omega (arith, ap length e, length-conflict name moment modified_by))
