-- A conflict copy's name is refused only as internal, and exactly if its name's last component is `.syncthing.tmp`.
use Rattle.std.proofs.Common.{◌≡◌, ◌↔◌, ◌⊎◌, ℕ, zero, suc, ◌+◌, ◌-◌, ◌*◌, ◌/◌, ◌%◌, ◌^◌, ◌<◌, ◌≤◌, Bool, true, false, nat_lt, eqb, cond, List, [], ◌∷◌, ◌++◌, length, get_or, take, drop, map, Some, None, Result, Ok, Err, IfErr, pos, refl, sym, ap, ◌∙◌, subst, arith, append_assoc, append-nil, length-append, inl, inr}
use Rattle.std.specs.Prelude.{bytes_eq, codes, chars, IsUtf8}
use Rattle.std.specs.List.{All, Any, Contains, list_all, list_any}
use Rattle.std.proofs.lemmas.Bool.{and_from, or_from, ne_eqb, lt-ltb, ltb-true, cond_both, cond-true, cond-false, cases_Bool, false≢true, false_from_ne_true}
use Rattle.std.proofs.lemmas.Option.{none-some}
use Rattle.std.proofs.lemmas.Slice.Eq.{bytes_eq-Decides}
use Rattle.std.proofs.lemmas.List.{take_at}
use Rattle.std.proofs.Math.Seq.{get_or-append_seam}
use Rattle.jiff_core.proofs.CalendarLemmas.{days_in_month_bounds}
use Rattle.std.proofs.lemmas.List.Elements.{All-append, All-cons, All-nil, All-take, All-weaker}
use Rattle.std.proofs.lemmas.List.Folds.{list_all-append}
use Rattle.std.proofs.lemmas.List.Sums.{AllPass-from_list_all}
use Rattle.std.proofs.lemmas.Str.{IsUtf8-take, IsCharBoundary-before_ascii}
use Rattle.std.specs.Str.{IsCharBoundary}
use Rattle.jiff_core.proofs.SignedLemmas.{signed_arith}
use Rattle.unicode_normalization.specs.Forms.{Nfc, IsInForm}
use Rattle.sync_names.specs.Base32.{base32_digit, base32_character, short_base32}
use Rattle.sync_names.specs.Components.{components, folder_of, folder_components, last_component, first_of}
use Rattle.sync_names.specs.Extension.{stem_of, extension_of}
use Rattle.sync_names.specs.Internal.{is_internal, IsInternal, IsReserved, IsTemporary}
use Rattle.sync_names.specs.Made.{conflict_mark, conflict_text}
use Rattle.sync_names.specs.declared.fault.NameFault.{NameFault}
use Rattle.sync_names.specs.declared.fault.NameFault.TheVariants.{Empty, Absolute, BadComponent, Nul, NotNfc, Internal, OutOfMemory}
use Rattle.sync_names.specs.Parsing.{ParsesTo}
use Rattle.sync_names.specs.Refusal.{shape_refusal, refusal, shape_tests}
use Rattle.sync_names.specs.Safe.{Refuses, IsSafe, IsBadComponent}
use Rattle.sync_names.specs.Utc.{utc_time, two_digits, four_digits, date_digits, time_digits}
use Rattle.sync_names.proofs.BesideLemmas.{digit_bounds, tested_none, length-conflict, stem_and_extension, extension-shape, conflict_last-no, conflict_last-no_slash, conflict_beside, plain_mark, plain-HasNo_nul, length_mark, HasNo-append, HasNo-parts}
use Rattle.sync_names.proofs.ComponentLemmas.{HasNo, folder_and_last, components-beside, components-front_and_last}
use Rattle.sync_names.proofs.NfcLemmas.{cases_cut, text_with_mark}
use Rattle.sync_names.proofs.RefusalLemmas.{none-find, Decides-nfc, refusal-internal, refusal-passed}
use Rattle.sync_names.proofs.InternalLemmas.{Decides-internal}
use Rattle.sync_names.proofs.UtcLemmas.{utc_time_shown}
use Rattle.sync_names.proofs.WalkLemmas.{IsGood, not_absolute}
use Rattle.sync_version.specs.declared.moment.TheConstants.Moment.{MAX_SECONDS}

-- ---- the mark is ASCII

abbrev is_ascii : ℕ → Bool
is_ascii b = nat_lt b 128

ascii_two_digits : (n : ℕ) → n < 100 → list_all is_ascii (two_digits n) ≡ true
ascii_two_digits n h =
    and_from _ _ (lt-ltb (48 + n / 10) 128 (omega arith)) (and_from _ _ (lt-ltb (48 + n % 10) 128 (omega arith)) refl)

ascii_both : (xs ys : List ℕ) → list_all is_ascii xs ≡ true → list_all is_ascii ys ≡ true → list_all is_ascii (xs ++ ys) ≡ true
ascii_both xs ys h k = list_all-append is_ascii xs ys ∙ and_from _ _ h k

digit_small : (value : ℕ) → value < 32 → base32_digit value < 128
digit_small value h =
    cond_both (nat_lt value 26) (65 + value) (50 + (value - 26)) (λ x. x < 128) (λ _. omega arith) (λ _. omega arith)

ascii_characters : (number : ℕ) (places : List ℕ) → list_all is_ascii (map (base32_character number) places) ≡ true
ascii_characters number [] = refl
ascii_characters number (i ∷ places) =
    and_from _ _ (lt-ltb (base32_character number i) 128 (digit_small (number / 2 ^ (59 - 5 * i) % 32) (omega arith))) (ascii_characters number places)

ascii_mark : (moment modified_by : ℕ) → moment ≤ MAX_SECONDS → All (λ c. c < 128) (conflict_mark moment modified_by)
ascii_mark moment modified_by h =
    let t = utc_time moment in
    let u = utc_time_shown moment h in
    let small : t.year ≤ 9999 = omega (arith, signed_arith, u.date.0) in
    let month = ascii_two_digits t.month (omega (arith, u.date.1)) in
    let day = ascii_two_digits t.day (omega (arith, u.date.2, days_in_month_bounds (pos t.year) t.month)) in
    let year = ascii_both (two_digits (t.year / 100)) (two_digits (t.year % 100)) (ascii_two_digits (t.year / 100) (omega arith)) (ascii_two_digits (t.year % 100) (omega arith)) in
    let date = ascii_both (four_digits t.year ++ two_digits t.month) (two_digits t.day) (ascii_both (four_digits t.year) (two_digits t.month) year month) day in
    let clock = ascii_both (two_digits t.hour) (two_digits t.minute) (ascii_two_digits t.hour (omega (arith, u.hour))) (ascii_two_digits t.minute (omega (arith, u.minute))) in
    let time = ascii_both (two_digits t.hour ++ two_digits t.minute) (two_digits t.second) clock (ascii_two_digits t.second (omega (arith, u.second))) in
    let a = ascii_both (codes ".sync-conflict-") (date_digits t) refl date in
    let b = ascii_both (codes ".sync-conflict-" ++ date_digits t) (codes "-") a refl in
    let c = ascii_both (codes ".sync-conflict-" ++ date_digits t ++ codes "-") (time_digits t) b time in
    let d = ascii_both (codes ".sync-conflict-" ++ date_digits t ++ codes "-" ++ time_digits t) (codes "-") c refl in
    let all = ascii_both (codes ".sync-conflict-" ++ date_digits t ++ codes "-" ++ time_digits t ++ codes "-") (short_base32 modified_by) d (ascii_characters modified_by (0 ∷ 1 ∷ 2 ∷ 3 ∷ 4 ∷ 5 ∷ 6 ∷ [])) in
    All-weaker (λ c. is_ascii c ≡ true) (λ c. c < 128) (λ c t. ltb-true c 128 t) (conflict_mark moment modified_by) (AllPass-from_list_all is_ascii (conflict_mark moment modified_by) all)

-- ---- the front of a name, and what follows the mark

pub record Front (name front extension : List ℕ) : Type 0 where
  pub whole : name ≡ front ++ extension
  pub utf8 : IsUtf8 front
  pub shape : (extension ≡ []) ⊎ ((rest : List ℕ) × (extension ≡ 46 ∷ rest))

before_dot : (name front rest : List ℕ) → name ≡ front ++ 46 ∷ rest → IsCharBoundary name (length front)
before_dot name front rest e =
    let within : length front < length name = omega (arith, ap length e, length-append front (46 ∷ rest)) in
    let here : get_or name (length front) 0 ≡ 46 = ap (λ (l : List ℕ). get_or l (length front) 0) e ∙ get_or-append_seam front 46 rest 0 in
    IsCharBoundary-before_ascii name (length front) within (omega arith)

front_of : (name : List ℕ) → IsUtf8 name → Front name (folder_of name ++ stem_of (last_component name)) (extension_of (last_component name))
front_of name utf8 =
    let last = last_component name in
    let whole : name ≡ (folder_of name ++ stem_of last) ++ extension_of last = folder_and_last name ∙ ap (λ (l : List ℕ). folder_of name ++ l) (stem_and_extension last) ∙ sym (append_assoc (folder_of name) (stem_of last) (extension_of last)) in
    elim (extension-shape last) [
      | inl none ↦
          let front : name ≡ folder_of name ++ stem_of last = whole ∙ ap (λ (l : List ℕ). (folder_of name ++ stem_of last) ++ l) none ∙ append-nil (folder_of name ++ stem_of last) in
          record { whole = whole; utf8 = subst IsUtf8 front utf8; shape = inl none }
      | inr dot ↦
          let front = folder_of name ++ stem_of last in
          let here : name ≡ front ++ 46 ∷ dot.0 = whole ∙ ap (λ (l : List ℕ). front ++ l) dot.1 in
          record { whole = whole; utf8 = subst IsUtf8 (ap (take (length front)) here ∙ take_at front (46 ∷ dot.0) (length front) refl) (IsUtf8-take name (length front) utf8 (before_dot name front dot.0 here)); shape = inr (dot.0, dot.1) }
    ]

conflict_nfc : (name : List ℕ) (moment modified_by : ℕ) → IsSafe name → moment ≤ MAX_SECONDS → IsInForm Nfc (chars (conflict_text name moment modified_by))
conflict_nfc name moment modified_by safe h =
    let mark = conflict_mark moment modified_by in
    let last = last_component name in
    let front = front_of name safe.utf8 in
    let formed = subst (λ (l : List ℕ). IsInForm Nfc (chars l)) front.whole safe.nfc in
    let parts : folder_of name ++ (stem_of last ++ mark ++ extension_of last) ≡ ((folder_of name ++ stem_of last) ++ mark) ++ extension_of last = simp append_assoc in
    subst (λ (l : List ℕ). IsInForm Nfc (chars l)) (sym parts) (text_with_mark (folder_of name ++ stem_of last) (drop 1 mark) (extension_of last) front.utf8 (ascii_mark moment modified_by h) front.shape formed)

-- ---- its shape

pub All-front : (ps qs : List (List ℕ)) → All IsGood (ps ++ qs) → All IsGood ps
All-front ps qs all = subst (All IsGood) (take_at ps qs (length ps) refl) (All-take IsGood (length ps) (ps ++ qs) all)

pub long_good : (component : List ℕ) → 2 < length component → IsGood component
long_good component h (inl e) = absurd (omega (arith, ap length e))
long_good component h (inr (inl e)) = absurd (omega (arith, ap length e))
long_good component h (inr (inr e)) = absurd (omega (arith, ap length e))

new_length : (name : List ℕ) (moment modified_by : ℕ) → 38 ≤ length (stem_of (last_component name) ++ conflict_mark moment modified_by ++ extension_of (last_component name))
new_length name moment modified_by =
    let last = last_component name in
    let mark = conflict_mark moment modified_by in
    omega (arith, length_mark moment modified_by, length-append (stem_of last ++ mark) (extension_of last), length-append (stem_of last) mark)

conflict_components : (name : List ℕ) (moment modified_by : ℕ) → components (conflict_text name moment modified_by) ≡ folder_components name ++ (stem_of (last_component name) ++ conflict_mark moment modified_by ++ extension_of (last_component name)) ∷ []
conflict_components name moment modified_by =
    components-beside name (stem_of (last_component name) ++ conflict_mark moment modified_by ++ extension_of (last_component name)) (conflict_last-no_slash name moment modified_by)

conflict_good : (name : List ℕ) (moment modified_by : ℕ) → IsSafe name → All IsGood (components (conflict_text name moment modified_by))
conflict_good name moment modified_by safe =
    let last = stem_of (last_component name) ++ conflict_mark moment modified_by ++ extension_of (last_component name) in
    let old : All IsGood (folder_components name ++ last_component name ∷ []) = subst (All IsGood) (components-front_and_last name) safe.good_components in
    let one : All IsGood (last ∷ []) = All-cons IsGood last [] (long_good last (let n = new_length name moment modified_by in omega arith)) (All-nil IsGood) in
    subst (All IsGood) (sym (conflict_components name moment modified_by)) (All-append IsGood (folder_components name) (last ∷ []) (All-front (folder_components name) (last_component name ∷ []) old) one)

conflict_no_nul : (name : List ℕ) (moment modified_by : ℕ) → IsSafe name → HasNo 0 (conflict_text name moment modified_by)
conflict_no_nul name moment modified_by safe =
    let none : HasNo 0 name = λ i lt e. safe.no_nul (i, lt, e) in
    let parts = HasNo-parts 0 (folder_of name) (last_component name) (subst (HasNo 0) (folder_and_last name) none) in
    HasNo-append 0 (folder_of name) (stem_of (last_component name) ++ conflict_mark moment modified_by ++ extension_of (last_component name)) parts.0
    (conflict_last-no 0 (last_component name) (conflict_mark moment modified_by) parts.1 (plain-HasNo_nul (conflict_mark moment modified_by) (plain_mark moment modified_by)))

conflict_shape : (name : List ℕ) (moment modified_by : ℕ) → IsSafe name → shape_refusal (conflict_text name moment modified_by) ≡ None
unfolding shape_refusal
conflict_shape name moment modified_by safe =
    let text = conflict_text name moment modified_by in
    let P : NameFault → Type 0 = λ f. ¬ (Refuses f text) in
    let good = conflict_good name moment modified_by safe in
    let some : ¬ (text ≡ []) = λ e. absurd (omega (arith, ap length e, length-conflict name moment modified_by)) in
    let nul : ¬ (Contains text 0) = λ at. conflict_no_nul name moment modified_by safe at.0 at.1 at.2 in
    let bad : ¬ (Any IsBadComponent (components text)) = λ w. good w.0 w.1 w.2 (rw w.3 w.4) in
    none-find shape_tests text
    (All-cons P Empty (Absolute ∷ Nul ∷ BadComponent ∷ []) some (All-cons P Absolute (Nul ∷ BadComponent ∷ []) (not_absolute text good) (All-cons P Nul (BadComponent ∷ []) nul (All-cons P BadComponent [] bad (All-nil P)))))

-- ---- where it is internal

first_cases : (ps : List (List ℕ)) (x y : List ℕ) → (first_of (ps ++ x ∷ []) ≡ x) ⊎ (first_of (ps ++ x ∷ []) ≡ first_of (ps ++ y ∷ []))
first_cases [] x y = inl refl
first_cases (p ∷ ps) x y = inr refl

too_long : (component : List ℕ) → 38 ≤ length component → ¬ (IsReserved component)
too_long component h (inl e) = absurd (omega (arith, ap length e))
too_long component h (inr (inl e)) = absurd (omega (arith, ap length e))
too_long component h (inr (inr e)) = absurd (omega (arith, ap length e))

not_reserved : (name : List ℕ) (moment modified_by : ℕ) → IsSafe name → ¬ (IsReserved (first_of (components (conflict_text name moment modified_by))))
not_reserved name moment modified_by safe reserved =
    let last = stem_of (last_component name) ++ conflict_mark moment modified_by ++ extension_of (last_component name) in
    let now = subst (λ (l : List (List ℕ)). IsReserved (first_of l)) (conflict_components name moment modified_by) reserved in
    elim (first_cases (folder_components name) last (last_component name)) [
      | inl new ↦ too_long last (new_length name moment modified_by) (subst IsReserved new now)
      | inr old ↦ safe.not_internal (inl (subst (λ (l : List (List ℕ)). IsReserved (first_of l)) (sym (components-front_and_last name)) (subst IsReserved old now)))
    ]

-- the last dot of a text cuts it in one way
one_last_dot : (a b c d : List ℕ) → HasNo 46 b → HasNo 46 d → a ++ 46 ∷ b ≡ c ++ 46 ∷ d → (a ≡ c) × (b ≡ d)
one_last_dot a b c d none_b none_d e =
    elim (cases_cut c (46 ∷ d) a (46 ∷ b) e) [
      | inl w ↦ shorter a b c d w.0 none_b w.1 w.2
      | inr w ↦ let s = shorter c d a b w.0 none_d w.1 w.2 in (sym s.0, sym s.1)
    ]
  where
    shorter : (a b c d x : List ℕ) → HasNo 46 b → c ≡ a ++ x → 46 ∷ b ≡ x ++ 46 ∷ d → (a ≡ c) × (b ≡ d)
    shorter a b c d [] none h k = (sym (h ∙ append-nil a), (let tail : b ≡ d = cc in tail))
    shorter a b c d (y ∷ x) none h k =
        let tail : b ≡ x ++ 46 ∷ d = cc in
        absurd ((HasNo-parts 46 x (46 ∷ d) (subst (HasNo 46) tail none)).1 0 (omega arith) refl)

no_dot_in_base32 : (modified_by : ℕ) → HasNo 46 (short_base32 modified_by)
no_dot_in_base32 modified_by = tested_none 46 (short_base32 modified_by) (no_dots modified_by (0 ∷ 1 ∷ 2 ∷ 3 ∷ 4 ∷ 5 ∷ 6 ∷ []))
  where
    no_dots : (number : ℕ) (places : List ℕ) → list_any (λ b. eqb b 46) (map (base32_character number) places) ≡ false
    no_dots number [] = refl
    no_dots number (i ∷ places) =
        or_from _ _ (ne_eqb (base32_character number i) 46 (λ e. let b = digit_bounds (number / 2 ^ (59 - 5 * i) % 32) in omega arith)) (no_dots number places)

dot_place : (n : ℕ) → n < 11 → get_or (codes ".syncthing.") n 0 ≡ 46 → (n ≡ 0) ⊎ (n ≡ 10)
dot_place zero h e = inl refl
dot_place (suc zero) h e = absurd (omega arith)
dot_place (suc (suc zero)) h e = absurd (omega arith)
dot_place (suc (suc (suc zero))) h e = absurd (omega arith)
dot_place (suc (suc (suc (suc zero)))) h e = absurd (omega arith)
dot_place (suc (suc (suc (suc (suc zero))))) h e = absurd (omega arith)
dot_place (suc (suc (suc (suc (suc (suc zero)))))) h e = absurd (omega arith)
dot_place (suc (suc (suc (suc (suc (suc (suc zero))))))) h e = absurd (omega arith)
dot_place (suc (suc (suc (suc (suc (suc (suc (suc zero)))))))) h e = absurd (omega arith)
dot_place (suc (suc (suc (suc (suc (suc (suc (suc (suc zero))))))))) h e = absurd (omega arith)
dot_place (suc (suc (suc (suc (suc (suc (suc (suc (suc (suc zero)))))))))) h e = inr refl
dot_place (suc (suc (suc (suc (suc (suc (suc (suc (suc (suc (suc n))))))))))) h e = absurd (omega arith)

-- a name whose last component is the stem and `.tmp` isn't safe where the stem begins with `.syncthing.`
temporary_stem : (name stem rest : List ℕ) → IsSafe name → last_component name ≡ stem ++ codes ".tmp" → stem ≡ codes ".syncthing." ++ rest → ⊥
temporary_stem name stem rest safe last begins =
    safe.not_internal (inr (rest, last ∙ ap (λ (l : List ℕ). l ++ codes ".tmp") begins))

-- where `.syncthing.` is cut so that its back begins with a dot and is the front of the mark, the front is `.syncthing`
stem_is : (stem x mark middle : List ℕ) → codes ".syncthing." ≡ stem ++ 46 ∷ x → mark ≡ 46 ∷ x ++ middle → get_or mark 5 0 ≡ 45 → stem ≡ codes ".syncthing"
stem_is stem x mark middle e k dash =
    let within : length stem < 11 = omega (arith, ap length e, length-append stem (46 ∷ x)) in
    let dot : get_or (codes ".syncthing.") (length stem) 0 ≡ 46 = ap (λ (l : List ℕ). get_or l (length stem) 0) e ∙ get_or-append_seam stem 46 x 0 in
    elim (dot_place (length stem) within dot) [
      | inr ten ↦ sym (ap (take 10) e ∙ take_at stem (46 ∷ x) 10 ten)
      | inl none ↦
          let nothing = length_zero stem none in
          let whole : codes ".syncthing." ≡ 46 ∷ x = e ∙ ap (λ (l : List ℕ). l ++ 46 ∷ x) nothing in
          let begun : mark ≡ codes ".syncthing." ++ middle = k ∙ ap (λ (l : List ℕ). l ++ middle) (sym whole) in
          absurd (let fifth : 45 ≡ 116 = sym dash ∙ ap (λ (l : List ℕ). get_or l 5 0) begun in omega arith)
    ]
  where
    length_zero : (xs : List ℕ) → length xs ≡ 0 → xs ≡ []
    length_zero [] h = refl
    length_zero (x ∷ xs) h = absurd (omega arith)

front_of_mark : (name stem mark middle : List ℕ) → IsSafe name → last_component name ≡ stem ++ codes ".tmp" → stem ++ 46 ∷ mark ≡ codes ".syncthing." ++ middle → get_or (46 ∷ mark) 5 0 ≡ 45 → last_component name ≡ codes ".syncthing.tmp"
front_of_mark name stem mark middle safe last e dash =
    elim (cases_cut (codes ".syncthing.") middle stem (46 ∷ mark) e) [
      | inr w ↦ absurd (temporary_stem name stem w.0 safe last w.1)
      | inl w ↦ by_back w.0 w.1 w.2
    ]
  where
    by_back : (x : List ℕ) → codes ".syncthing." ≡ stem ++ x → 46 ∷ mark ≡ x ++ middle → last_component name ≡ codes ".syncthing.tmp"
    by_back [] h k = absurd (temporary_stem name stem [] safe last (sym (h ∙ append-nil stem)))
    by_back (y ∷ x) h k =
        let head : y ≡ 46 = cc in
        let front : codes ".syncthing." ≡ stem ++ 46 ∷ x = h ∙ ap (λ (z : ℕ). stem ++ z ∷ x) head in
        let back : 46 ∷ mark ≡ 46 ∷ x ++ middle = k ∙ ap (λ (z : ℕ). z ∷ x ++ middle) head in
        last ∙ ap (λ (l : List ℕ). l ++ codes ".tmp") (stem_is stem x (46 ∷ mark) middle front back dash)

temporary_conflict : (name : List ℕ) (moment modified_by : ℕ) → IsSafe name → IsTemporary (stem_of (last_component name) ++ conflict_mark moment modified_by ++ extension_of (last_component name)) → last_component name ≡ codes ".syncthing.tmp"
temporary_conflict name moment modified_by safe temporary =
    let last = last_component name in
    let stem = stem_of last in
    let mark = conflict_mark moment modified_by in
    let middle = temporary.0 in
    elim (extension-shape last) [
      | inl none ↦
          let ends : stem ++ mark ≡ (codes ".syncthing." ++ middle) ++ codes ".tmp" = sym (append-nil (stem ++ mark)) ∙ ap (λ (l : List ℕ). stem ++ mark ++ l) (sym none) ∙ temporary.1 in
          let start = date_start moment in
          let ended : (stem ++ start) ++ short_base32 modified_by ≡ (codes ".syncthing." ++ middle) ++ codes ".tmp" = append_assoc stem start (short_base32 modified_by) ∙ ends in
          absurd (no_end (stem ++ start) (codes ".syncthing." ++ middle) (short_base32 modified_by) (no_dot_in_base32 modified_by) refl ended)
      | inr dot ↦
          let joined : (stem ++ mark) ++ 46 ∷ dot.0 ≡ (codes ".syncthing." ++ middle) ++ 46 ∷ codes "tmp" = ap (λ (l : List ℕ). stem ++ mark ++ l) (sym dot.1) ∙ temporary.1 in
          let cut = one_last_dot (stem ++ mark) dot.0 (codes ".syncthing." ++ middle) (codes "tmp") dot.2 (tested_none 46 (codes "tmp") refl) joined in
          let whole : last ≡ stem ++ codes ".tmp" = stem_and_extension last ∙ ap (λ (l : List ℕ). stem ++ l) (dot.1 ∙ ap (λ (l : List ℕ). 46 ∷ l) cut.1) in
          front_of_mark name stem (drop 1 mark) middle safe whole cut.0 refl
    ]
  where
    date_start : ℕ → List ℕ
    date_start moment = codes ".sync-conflict-" ++ date_digits (utc_time moment) ++ codes "-" ++ time_digits (utc_time moment) ++ codes "-"

    no_end : (a b short : List ℕ) → HasNo 46 short → length short ≡ 7 → a ++ short ≡ b ++ codes ".tmp" → ⊥
    no_end a b short none len e =
        elim (cases_cut b (codes ".tmp") a short e) [
          | inl w ↦ absurd ((HasNo-parts 46 w.0 (codes ".tmp") (subst (HasNo 46) w.2 none)).1 0 (omega arith) refl)
          | inr w ↦ absurd (omega (arith, len, ap length w.2, length-append w.0 short))
        ]

-- ---- its refusal

pub internal_where : (name : List ℕ) (moment modified_by : ℕ) → IsSafe name → (IsInternal (conflict_text name moment modified_by)) ↔ (last_component name ≡ codes ".syncthing.tmp")
internal_where name moment modified_by safe = (
  λ internal. elim internal [
    | inl reserved ↦ absurd (not_reserved name moment modified_by safe reserved)
    | inr temporary ↦ temporary_conflict name moment modified_by safe (subst IsTemporary (conflict_beside name moment modified_by).named temporary)
  ],
  λ e. inr (subst IsTemporary (sym (conflict_beside name moment modified_by).named) (rewritten e)),
)
  where
    rewritten : last_component name ≡ codes ".syncthing.tmp" → IsTemporary (stem_of (last_component name) ++ conflict_mark moment modified_by ++ extension_of (last_component name))
    rewritten e =
        let T : List ℕ → Type 0 = λ l. IsTemporary (stem_of l ++ conflict_mark moment modified_by ++ extension_of l) in
        subst T (sym e) (drop 1 (conflict_mark moment modified_by), refl)

pub conflict-refusal : (name : List ℕ) (moment modified_by : ℕ) → IsSafe name → moment ≤ MAX_SECONDS → refusal (conflict_text name moment modified_by) ≡ cond (bytes_eq (last_component name) (codes ".syncthing.tmp")) (Some Internal) None
conflict-refusal name moment modified_by safe h =
    let text = conflict_text name moment modified_by in
    let last = last_component name in
    let shape = conflict_shape name moment modified_by safe in
    let formed = (Decides-nfc text).1 (conflict_nfc name moment modified_by safe h) in
    let where_internal = internal_where name moment modified_by safe in
    let tests = bytes_eq-Decides last (codes ".syncthing.tmp") in
    elim (cases_Bool (bytes_eq last (codes ".syncthing.tmp"))) [
      | inl is ↦
          refusal-internal text shape formed ((Decides-internal text).1 (where_internal.1 (tests.0 is)))
          ∙ sym (cond-true (bytes_eq last (codes ".syncthing.tmp")) (Some Internal) None is)
      | inr isnt ↦
          refusal-passed text shape formed (false_from_ne_true (is_internal text) (λ t. false≢true (sym isnt ∙ tests.1 (where_internal.0 ((Decides-internal text).0 t)))))
          ∙ sym (cond-false (bytes_eq last (codes ".syncthing.tmp")) (Some Internal) None isnt)
    ]

-- ---- what `conflict_name` returns

pub conflict_internal : (name : List ℕ) (moment modified_by : ℕ) → IsSafe name → moment ≤ MAX_SECONDS → last_component name ≡ codes ".syncthing.tmp" → refusal (conflict_text name moment modified_by) ≡ Some Internal
conflict_internal name moment modified_by safe h e =
    conflict-refusal name moment modified_by safe h
    ∙ cond-true (bytes_eq (last_component name) (codes ".syncthing.tmp")) (Some Internal) None ((bytes_eq-Decides (last_component name) (codes ".syncthing.tmp")).1 e)

pub conflict_passed : (name : List ℕ) (moment modified_by : ℕ) → IsSafe name → moment ≤ MAX_SECONDS → ¬ (last_component name ≡ codes ".syncthing.tmp") → refusal (conflict_text name moment modified_by) ≡ None
conflict_passed name moment modified_by safe h other =
    conflict-refusal name moment modified_by safe h
    ∙ cond-false (bytes_eq (last_component name) (codes ".syncthing.tmp")) (Some Internal) None (false_from_ne_true (bytes_eq (last_component name) (codes ".syncthing.tmp")) (λ t. other ((bytes_eq-Decides (last_component name) (codes ".syncthing.tmp")).0 t)))

-- a text that no test refuses is parsed, or out of memory
pub passed_or_memory : (text : List ℕ) (result : Result (List ℕ) NameFault) → refusal text ≡ None → ParsesTo text result → IfErr result (λ fault. fault ≡ OutOfMemory)
passed_or_memory text (Ok made) passed told = tt
passed_or_memory text (Err Empty) passed told = absurd (none-some Empty (sym passed ∙ told))
passed_or_memory text (Err Absolute) passed told = absurd (none-some Absolute (sym passed ∙ told))
passed_or_memory text (Err BadComponent) passed told = absurd (none-some BadComponent (sym passed ∙ told))
passed_or_memory text (Err Nul) passed told = absurd (none-some Nul (sym passed ∙ told))
passed_or_memory text (Err NotNfc) passed told = absurd (none-some NotNfc (sym passed ∙ told))
passed_or_memory text (Err Internal) passed told = absurd (none-some Internal (sym passed ∙ told))
passed_or_memory text (Err OutOfMemory) passed told = refl

-- what is not an error, or out of memory, is no refusal as internal
pub memory_not_internal : (result : Result (List ℕ) NameFault) → IfErr result (λ fault. fault ≡ OutOfMemory) → ¬ (result ≡ Err Internal)
memory_not_internal (Ok made) h e = cc
memory_not_internal (Err fault) h e = cc
