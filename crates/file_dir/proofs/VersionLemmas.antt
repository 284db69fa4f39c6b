-- A moment is read from its mark again, and the mark from a version's name.
use Rattle.std.proofs.Common.{◌≡◌, ℕ, zero, suc, ◌+◌, ◌-◌, ◌*◌, ◌/◌, ◌%◌, ◌<◌, ◌≤◌, List, [], ◌∷◌, ◌++◌, length, get_or, take, drop, ◌≢◌, ◌⊎◌, refl, sym, ap, subst, ◌∙◌, arith, lit<, lit≤, true, inl, inr, IsUtf8, Option, Some, None, IsSome, IfSome, length-append, length-take, ℤ, pos, ◌+ℤ◌, ◌-ℤ◌, ◌*ℤ◌, w8, w16, to_z, of_z}
use Rattle.std.specs.List.{AllByRecursion}
use Rattle.std.specs.Str.{IsAscii, IsCharBoundary}
use Rattle.std.specs.Prelude.{int_div}
use Rattle.std.proofs.lemmas.List.{append-nil, drop_more, get_or-take, get_or_append_left, get_or-append_right}
use Rattle.std.proofs.lemmas.Bool.{cases_lt}
use Rattle.std.proofs.Math.Seq.{take-nil}
use Rattle.std.proofs.lemmas.Str.{IsCharBoundary-after_ascii, IsCharBoundary-before_ascii, IsUtf8-drop}
use Rattle.jiff_core.specs.Calendar.{IsDate, days_from_civil}
use Rattle.jiff_core.specs.DateTime.{civil_nanos, civil_seconds}
use Rattle.jiff_core.specs.Time.{IsTime}
use Rattle.jiff_core.specs.Timestamp.{IsTimestampNanos, nanos_of_seconds}
use Rattle.jiff_core.specs.declared.civil.datetime.DateTime.{DateTime}
use Rattle.jiff_core.proofs.CalendarLemmas.{days_in_month_bounds}
use Rattle.jiff_core.proofs.DateTimeLemmas.{civil_nanos-civil_seconds}
use Rattle.jiff_core.proofs.SignedLemmas.{back_small, signed_arith}
use Rattle.sync_names.specs.Utc.{IsUtc, utc_time, date_digits, time_digits, two_digits}
use Rattle.sync_names.specs.declared.utc.UtcTime.{UtcTime}
use Rattle.sync_names.proofs.UtcLemmas.{utc_time_shown}
use Rattle.sync_version.specs.declared.moment.TheConstants.Moment.{MAX_SECONDS}
use Rattle.sync_names.specs.Extension.{stem_of, extension_of}
use Rattle.sync_names.proofs.ComponentLemmas.{HasNo, IsLastPlace, last_place, none_after}
use Rattle.sync_names.proofs.ExtensionLemmas.{cut_at_dot, cut_without_dot}
use Rattle.sync_names.proofs.Lemmas.{extension-dot, extension-whole}
use Rattle.file_dir.specs.Versions.{version_mark, IsCut, IsShown, IsVersionName, IsVersionOf}

-- ---- written

abbrev pub mark_of : UtcTime → List ℕ
mark_of t = 126 ∷ (date_digits t ++ 45 ∷ time_digits t)

pub marked : (t : UtcTime) (a b m d h i s : List ℕ) → a ≡ two_digits (t.year / 100) → b ≡ two_digits (t.year % 100) → m ≡ two_digits t.month → d ≡ two_digits t.day → h ≡ two_digits t.hour → i ≡ two_digits t.minute → s ≡ two_digits t.second → 126 ∷ get_or a 0 0 ∷ get_or a 1 0 ∷ get_or b 0 0 ∷ get_or b 1 0 ∷ get_or m 0 0 ∷ get_or m 1 0 ∷ get_or d 0 0 ∷ get_or d 1 0 ∷ 45 ∷ get_or h 0 0 ∷ get_or h 1 0 ∷ get_or i 0 0 ∷ get_or i 1 0 ∷ get_or s 0 0 ∷ get_or s 1 0 ∷ [] ≡ mark_of t
marked t a b m d h i s ea eb em ed eh ei es = rw (ea, eb, em, ed, eh, ei, es)

-- ---- read

abbrev pub IsRead : List ℕ → ℕ → ℕ → ℤ → Type 0
IsRead mark i j z = (n : ℕ) → n < 100 → get_or mark i 0 ≡ 48 + n / 10 → get_or mark j 0 ≡ 48 + n % 10 → z ≡ pos n

pub record Bounds (t : UtcTime) : Type 0 where
  pub year : t.year ≤ 9999
  pub month : t.month < 100
  pub day : t.day < 100
  pub hour : t.hour < 100
  pub minute : t.minute < 100
  pub second : t.second < 100

pub bounds : (m : ℕ) (t : UtcTime) → IsUtc m t → Bounds t
bounds m t u =
    let long = days_in_month_bounds (pos t.year) t.month in
    let date = u.date in record {
      year = omega (arith, signed_arith, date.0);
      month = omega (arith, date.1);
      day = omega (arith, date.2, long);
      hour = omega (arith, u.hour);
      minute = omega (arith, u.minute);
      second = omega (arith, u.second);
    }

-- a small number that was written as a signed one
pub signed8 : (z : ℤ) (n : ℕ) → z ≡ pos n → n < 100 → to_z w8 (of_z w8 z) ≡ pos n
signed8 z n e small = ap (λ (x : ℤ). to_z w8 (of_z w8 x)) e ∙ back_small w8 (pos n) (omega arith)

signed16 : (z : ℤ) (n : ℕ) → z ≡ pos n → n ≤ 9999 → to_z w16 (of_z w16 z) ≡ pos n
signed16 z n e small = ap (λ (x : ℤ). to_z w16 (of_z w16 x)) e ∙ back_small w16 (pos n) (omega arith)

year_number : (y z : ℤ) (n : ℕ) → n ≤ 9999 → y ≡ pos (n / 100) → z ≡ pos (n % 100) → to_z w16 (of_z w16 ((to_z w16 (of_z w16 ((to_z w16 (of_z w16 y)) *ℤ pos 100))) +ℤ to_z w16 (of_z w16 z))) ≡ pos n
year_number y z n small ey ez =
    let high = signed16 y (n / 100) ey (omega arith) in
    let low = signed16 z (n % 100) ez (omega arith) in
    let hundreds : (to_z w16 (of_z w16 y)) *ℤ pos 100 ≡ pos (n / 100 * 100) = omega (arith, signed_arith, high) in
    let read = signed16 ((to_z w16 (of_z w16 y)) *ℤ pos 100) (n / 100 * 100) hundreds (omega arith) in
    let year : (to_z w16 (of_z w16 ((to_z w16 (of_z w16 y)) *ℤ pos 100))) +ℤ to_z w16 (of_z w16 z) ≡ pos n = omega (arith, signed_arith, read, low) in
    signed16 _ n year small

pub read_back : (mark : List ℕ) (m : ℕ) (y z mo d h i s : ℤ) → m ≤ MAX_SECONDS → mark ≡ version_mark m → IsRead mark 1 2 y → IsRead mark 3 4 z → IsRead mark 5 6 mo → IsRead mark 7 8 d → IsRead mark 10 11 h → IsRead mark 12 13 i → IsRead mark 14 15 s → IsShown (utc_time m) (to_z w16 (of_z w16 ((to_z w16 (of_z w16 ((to_z w16 (of_z w16 y)) *ℤ pos 100))) +ℤ to_z w16 (of_z w16 z)))) (to_z w8 (of_z w8 mo)) (to_z w8 (of_z w8 d)) (to_z w8 (of_z w8 h)) (to_z w8 (of_z w8 i)) (to_z w8 (of_z w8 s))
read_back mark m y z mo d h i s small e ry rz rmo rd rh ri rs =
    let t = utc_time m in
    let b = bounds m t (utc_time_shown m small) in
    let at = λ (k : ℕ). ap (λ (l : List ℕ). get_or l k 0) e in
    let high : y ≡ pos (t.year / 100) = ry (t.year / 100) (omega (arith, b.year)) (at 1) (at 2) in
    let low : z ≡ pos (t.year % 100) = rz (t.year % 100) (omega arith) (at 3) (at 4) in record {
      year_is = year_number y z t.year b.year high low;
      month_is = signed8 mo t.month (rmo t.month b.month (at 5) (at 6)) b.month;
      day_is = signed8 d t.day (rd t.day b.day (at 7) (at 8)) b.day;
      hour_is = signed8 h t.hour (rh t.hour b.hour (at 10) (at 11)) b.hour;
      minute_is = signed8 i t.minute (ri t.minute b.minute (at 12) (at 13)) b.minute;
      second_is = signed8 s t.second (rs t.second b.second (at 14) (at 15)) b.second;
    }

-- ---- the moment of a date and time

pub is_date : (m : ℕ) (t : UtcTime) (y mo d h i s : ℤ) → IsUtc m t → IsShown t y mo d h i s → IsDate y mo d
is_date m t y mo d h i s u k = rw (k.year_is, k.month_is, k.day_is) (let date = u.date in (date.0, (omega (arith, signed_arith, date.1), omega (arith, signed_arith, date.1)), (omega (arith, signed_arith, date.2), omega (arith, signed_arith, date.2))))

pub is_time : (m : ℕ) (t : UtcTime) (y mo d h i s : ℤ) → IsUtc m t → IsShown t y mo d h i s → IsTime h i s (pos 0)
is_time m t y mo d h i s u k = rw (k.hour_is, k.minute_is, k.second_is) ((omega (arith, signed_arith), omega (arith, signed_arith, u.hour)), (omega (arith, signed_arith), omega (arith, signed_arith, u.minute)), (omega (arith, signed_arith), omega (arith, signed_arith, u.second)), (omega (arith, signed_arith), omega (arith, signed_arith)))

pub nanos : (m : ℕ) (t : UtcTime) (dt : DateTime) → IsUtc m t → dt.date.year ≡ pos t.year → pos dt.date.month ≡ pos t.month → pos dt.date.day ≡ pos t.day → pos dt.time.hour ≡ pos t.hour → pos dt.time.minute ≡ pos t.minute → pos dt.time.second ≡ pos t.second → pos dt.time.subsec_nanosecond ≡ pos 0 → civil_nanos dt ≡ pos m *ℤ pos 1_000_000_000
unfolding civil_seconds
nanos m t dt u ey em ed eh ei es en =
    let month : dt.date.month ≡ t.month = cc in
    let date : dt.date.day ≡ t.day = cc in
    let day : days_from_civil dt.date.year dt.date.month dt.date.day ≡ days_from_civil (pos t.year) t.month t.day = rw (ey, month, date) in
    let seconds : civil_seconds dt ≡ pos m = omega (arith, signed_arith, day, u.seconds, eh, ei, es) in
    omega (arith, signed_arith, civil_nanos-civil_seconds dt, seconds, en)

pub signed_shown : (t : UtcTime) (y mo d h i s : ℤ) → Bounds t → IsShown t y mo d h i s → IsShown t (to_z w16 (of_z w16 y)) (to_z w8 (of_z w8 mo)) (to_z w8 (of_z w8 d)) (to_z w8 (of_z w8 h)) (to_z w8 (of_z w8 i)) (to_z w8 (of_z w8 s))
signed_shown t y mo d h i s b k = record {
  year_is = signed16 y t.year k.year_is b.year;
  month_is = signed8 mo t.month k.month_is b.month;
  day_is = signed8 d t.day k.day_is b.day;
  hour_is = signed8 h t.hour k.hour_is b.hour;
  minute_is = signed8 i t.minute k.minute_is b.minute;
  second_is = signed8 s t.second k.second_is b.second;
}

pub fits_timestamp : (m : ℕ) (z : ℤ) → m ≤ MAX_SECONDS → z ≡ pos m *ℤ pos 1_000_000_000 → IsTimestampNanos (z -ℤ nanos_of_seconds (pos 0))
fits_timestamp m z small e = rw e (omega (arith, signed_arith), omega (arith, signed_arith))

pub in_seconds : (m : ℕ) (z n s : ℤ) → z ≡ pos m *ℤ pos 1_000_000_000 → n ≡ z -ℤ nanos_of_seconds (pos 0) → s ≡ int_div n (pos 1_000_000_000) → s ≡ pos m
in_seconds m z n s ez en es =
    let whole : n ≡ pos (m * 1_000_000_000) = omega (arith, signed_arith) in
    let back : m * 1_000_000_000 / 1_000_000_000 ≡ m = omega arith in
    es ∙ ap (λ (x : ℤ). int_div x (pos 1_000_000_000)) whole ∙ ap pos back

pub some_is : {X : Type 0} (x y : X) → Some x ≡ Some y → x ≡ y
some_is x y e = cc

pub is_some : {X : Type 0} (r : Option X) (x : X) → IsSome r → IfSome r (λ y. y ≡ x) → r ≡ Some x
is_some (Some y) x h e = ap Some e
is_some None x h e = cc

-- ---- a mark is ASCII, and has no dot

ascii_of : (bs : List ℕ) → AllByRecursion (λ b. b < 128) bs → IsAscii bs
ascii_of [] h i = lit< tt
ascii_of (b ∷ bs) h zero = h.0
ascii_of (b ∷ bs) h (suc i) = ascii_of bs h.1 i

pub mark_ascii : (t : UtcTime) → Bounds t → IsAscii (mark_of t)
mark_ascii t b =
    let y = b.year in let m = b.month in let d = b.day in let h = b.hour in let n = b.minute in let s = b.second in
    ascii_of (mark_of t) (lit< tt, (omega arith, (omega arith, (omega arith, (omega arith, (omega arith, (omega arith, (omega arith, (omega arith, (lit< tt, (omega arith, (omega arith, (omega arith, (omega arith, (omega arith, (omega arith, tt))))))))))))))))

no_dot_of : (bs : List ℕ) → AllByRecursion (λ b. b ≢ 46) bs → HasNo 46 bs
no_dot_of [] h i k = absurd (omega arith)
no_dot_of (b ∷ bs) h zero k = h.0
no_dot_of (b ∷ bs) h (suc i) k = no_dot_of bs h.1 i (omega arith)

digit_no_dot : (n : ℕ) → 48 + n ≢ 46
digit_no_dot n e = absurd (omega (arith, e))

mark_no_dot : (m : ℕ) → HasNo 46 (version_mark m)
mark_no_dot m =
    no_dot_of (version_mark m) ((λ e. absurd (omega (arith, e))), (digit_no_dot _, (digit_no_dot _, (digit_no_dot _, (digit_no_dot _, (digit_no_dot _, (digit_no_dot _, (digit_no_dot _, (digit_no_dot _, ((λ e. absurd (omega (arith, e))), (digit_no_dot _, (digit_no_dot _, (digit_no_dot _, (digit_no_dot _, (digit_no_dot _, (digit_no_dot _, tt))))))))))))))))

no_dot-take : (n : ℕ) (text : List ℕ) → HasNo 46 text → HasNo 46 (take n text)
no_dot-take n text none i h e =
    let k : i < n = omega (arith, length-take n text) in
    none i (omega (arith, length-take n text)) (sym (get_or-take n text i 0 k) ∙ e)

no_dot-append : (xs ys : List ℕ) → HasNo 46 xs → HasNo 46 ys → HasNo 46 (xs ++ ys)
no_dot-append xs ys hx hy i h e =
    elim (cases_lt i (length xs)) [
      | inl k ↦ hx i k (sym (get_or_append_left xs ys 0 i k) ∙ e)
      | inr k ↦ hy (i - length xs) (omega (arith, length-append xs ys)) (sym (get_or-append_right xs ys (length xs) i 0 refl k) ∙ e)
    ]

-- ---- the moment in a version's name

-- an extension that is cut has its dot still
cut_extension : (rest back : List ℕ) → IsUtf8 (46 ∷ rest) → IsCut 239 (46 ∷ rest) back → (k : ℕ) × (back ≡ 46 ∷ take k rest)
cut_extension rest back text cut = elim (cases_lt 0 cut.end) [
  | inl some ↦ let one : cut.end ≡ suc (cut.end - 1) = omega arith in (cut.end - 1, cut.is ∙ ap (λ (n : ℕ). take n (46 ∷ rest)) one)
  | inr none ↦ absurd (cut.longest 1 (omega arith) (lit≤ tt) (IsCharBoundary-after_ascii (46 ∷ rest) 0 text (omega arith) (lit< tt)))
]

pub version_form : (last name : List ℕ) (m : ℕ) → IsUtf8 last → IsVersionName last m name → IsVersionOf m name
version_form last name m text v =
    elim (last_place 46 last) [
      | inl none ↦
          let whole = cut_without_dot last none in
          let back : v.back ≡ [] = v.extension.is ∙ ap (take v.extension.end) whole.extension ∙ take-nil v.extension.end in
          let front : HasNo 46 v.front = subst (HasNo 46) (sym (v.stem.is ∙ ap (take v.stem.end) whole.stem)) (no_dot-take v.stem.end last none) in
          let is : name ≡ v.front ++ version_mark m = v.is ∙ ap (λ (l : List ℕ). v.front ++ version_mark m ++ l) back ∙ append-nil (v.front ++ version_mark m) in
          (v.front, ap stem_of is ∙ extension-whole (v.front ++ version_mark m) (no_dot-append v.front (version_mark m) front (mark_no_dot m)))
      | inr (k, place) ↦
          let cut = cut_at_dot last k place in
          let rest = drop (k + 1) last in
          let dot : drop k last ≡ 46 ∷ rest = drop_more last k 0 place.within ∙ ap (λ (x : ℕ). x ∷ rest) place.here in
          let ascii : get_or last k 0 < 128 = rw (place.here) (lit< tt) in
          let after : IsUtf8 (46 ∷ rest) = subst IsUtf8 dot (IsUtf8-drop last k text (IsCharBoundary-before_ascii last k place.within ascii)) in
          let Cut : List ℕ → Type 0 = λ l. IsCut 239 l v.back in
          let back = cut_extension rest v.back after (subst Cut (cut.extension ∙ dot) v.extension) in
          let is : name ≡ (v.front ++ version_mark m) ++ 46 ∷ take back.0 rest = v.is ∙ ap (λ (l : List ℕ). v.front ++ version_mark m ++ l) back.1 in
          (v.front, ap stem_of is ∙ extension-dot (v.front ++ version_mark m) (take back.0 rest) (no_dot-take back.0 rest (none_after 46 last k place.later)))
    ]
