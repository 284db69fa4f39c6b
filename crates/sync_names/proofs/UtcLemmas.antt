-- The date and time that are counted off are those of the calendar and the clock, and no others are.
use Rattle.std.proofs.Common.{◌≡◌, ℕ, zero, suc, ◌+◌, ◌-◌, ◌*◌, ◌/◌, ◌%◌, ◌^◌, ◌<◌, ◌≤◌, nat_lt, List, [], ◌++◌, refl, sym, ap, ◌∙◌, subst, arith, append_assoc, inl, inr, false, ℤ, pos, negsuc, ◌+ℤ◌, ◌*ℤ◌, ◌≤ℤ◌, unsigned_abs, to_z, of_z}
use Rattle.std.specs.Int.{Width}
use Rattle.std.specs.Fmt.{decimal, styled_decimal, padded_integral, format_spec, char_count}
use Rattle.std.proofs.lemmas.Bool.{cases_lt, cases_order, cond-true, cond-false, lt-ltb, le-ltb}
use Rattle.std.proofs.lemmas.Fmt.{decimal_digit, decimal_step}
use Rattle.std.proofs.lemmas.Int.{by_lt_z, to_z_pos}
use Rattle.jiff_core.specs.Calendar.{IsCivilDate, day_count, days_from_civil, days_in_year, days_in_month}
use Rattle.jiff_core.specs.Date.{epoch_day}
use Rattle.jiff_core.specs.DateTime.{civil_nanos, civil_seconds}
use Rattle.jiff_core.specs.declared.civil.datetime.DateTime.{DateTime}
use Rattle.jiff_core.proofs.CalendarLemmas.{day_count-epoch, day_count-end, days_from_civil-day_count, days_in_year_bounds, days_in_month_bounds, day_count-next_year, day_count-later_year, day_count-next_month, day_count-last_of_year, day_count-day, day_count-lt_year, day_count-lt_month}
use Rattle.jiff_core.proofs.DateLemmas.{civil}
use Rattle.jiff_core.proofs.DateTimeLemmas.{civil_nanos-civil_seconds}
use Rattle.jiff_core.proofs.SignedLemmas.{signed_arith, back_small, unsigned_abs-parts}
use mir.Syntax.{w8, w16, w64}
use mir.Val.{hbits}
use Rattle.sync_names.specs.declared.utc.UtcTime.{UtcTime}
use Rattle.sync_names.specs.Utc.{IsUtc, year_and_rest, month_and_rest, utc_time, two_digits}
use Rattle.sync_version.specs.declared.moment.TheConstants.Moment.{MAX_SECONDS}

-- ---- counting off

pub record YearOf (year days : ℕ) (counted : ℕ × ℕ) : Type 0 where
  pub same_day : day_count (pos counted.0) 1 1 + counted.1 ≡ day_count (pos year) 1 1 + days
  pub within : counted.1 < days_in_year (pos counted.0)
  pub later : year ≤ counted.0

pub year_counted : (n year days : ℕ) → days < 365 * n → YearOf year days (year_and_rest n year days)
unfolding year_and_rest
year_counted zero year days h = absurd (omega arith)
year_counted (suc n) year days h =
    let long = days_in_year (pos year) in
    elim (cases_lt days long) [
      | inl lt ↦
          let here : year_and_rest (suc n) year days ≡ (year, days) = cond-true (nat_lt days long) (year, days) (year_and_rest n (year + 1) (days - long)) (lt-ltb days long lt) in
          rw here (record { same_day = refl; within = lt; later = omega arith })
      | inr ge ↦
          let there : year_and_rest (suc n) year days ≡ year_and_rest n (year + 1) (days - long) = cond-false (nat_lt days long) (year, days) (year_and_rest n (year + 1) (days - long)) (le-ltb days long ge) in
          let next = day_count-next_year (pos year) (pos (year + 1)) (omega (arith, signed_arith)) (omega (arith, signed_arith)) in
          let rest = year_counted n (year + 1) (days - long) (omega (arith, days_in_year_bounds (pos year))) in
          rw there (record { same_day = omega (arith, rest.same_day); within = rest.within; later = omega (arith, rest.later) })
    ]

pub record MonthOf (year month days : ℕ) (counted : ℕ × ℕ) : Type 0 where
  pub same_day : day_count (pos year) counted.0 1 + counted.1 ≡ day_count (pos year) month 1 + days
  pub within : counted.1 < days_in_month (pos year) counted.0
  pub low : 1 ≤ counted.0
  pub high : counted.0 ≤ 12

after_december : (year : ℕ) → day_count (pos year) 13 1 ≡ day_count (pos year) 1 1 + days_in_year (pos year)
after_december year =
    omega (arith, day_count-next_month (pos year) 12 (omega arith), day_count-last_of_year (pos year), day_count-day (pos year) 12 31 1 (omega arith) (omega arith))

pub month_counted : (n year month days : ℕ) → n + month ≡ 13 → 1 ≤ month → day_count (pos year) month 1 + days < day_count (pos year) 1 1 + days_in_year (pos year) → MonthOf year month days (month_and_rest n year month days)
unfolding month_and_rest
month_counted zero year month days e low h =
    let last : month ≡ 13 = omega arith in
    let full = rw last at h in absurd (omega (arith, after_december year))
month_counted (suc n) year month days e low h =
    let long = days_in_month (pos year) month in
    elim (cases_lt days long) [
      | inl lt ↦
          let here : month_and_rest (suc n) year month days ≡ (month, days) = cond-true (nat_lt days long) (month, days) (month_and_rest n year (month + 1) (days - long)) (lt-ltb days long lt) in
          rw here (record { same_day = refl; within = lt; low = low; high = omega arith })
      | inr ge ↦
          let there : month_and_rest (suc n) year month days ≡ month_and_rest n year (month + 1) (days - long) = cond-false (nat_lt days long) (month, days) (month_and_rest n year (month + 1) (days - long)) (le-ltb days long ge) in
          let next = day_count-next_month (pos year) month low in
          let rest = month_counted n year (month + 1) (days - long) (omega arith) (omega arith) (omega arith) in
          rw there (record { same_day = omega (arith, rest.same_day); within = rest.within; low = rest.low; high = rest.high })
    ]

-- ---- what is counted off is shown

year_bound : (year : ℕ) → day_count (pos year) 1 1 < 7_304_850 → year ≤ 9999
year_bound year h =
    elim (cases_order year 10000) [
      | inl same ↦ absurd (let at_end = rw same at h in omega (arith, day_count-end))
      | inr (inl lt) ↦ omega arith
      | inr (inr gt) ↦ absurd (omega (arith, day_count-end, day_count-later_year (pos 10000) (pos year) (omega (arith, signed_arith)) (omega (arith, signed_arith))))
    ]

pub utc_time_shown : (moment : ℕ) → moment ≤ MAX_SECONDS → IsUtc moment (utc_time moment)
unfolding utc_time
utc_time_shown moment h =
    let days = moment / 86400 in
    let year = year_and_rest 8000 1970 days in
    let month = month_and_rest 12 year.0 1 year.1 in
    let y = year_counted 8000 1970 days (omega arith) in
    let m = month_counted 12 year.0 1 year.1 refl (omega arith) (omega (arith, y.within)) in
    let in_range = year_bound year.0 (omega (arith, y.same_day, day_count-epoch)) in
    let first = day_count-day (pos year.0) month.0 1 (month.1 + 1) (omega arith) (omega arith) in
    let day : days_from_civil (pos year.0) month.0 (month.1 + 1) ≡ pos days = omega (arith, signed_arith, y.same_day, m.same_day, day_count-epoch, days_from_civil-day_count (pos year.0) month.0 (month.1 + 1)) in
    record {
      date = ((omega (arith, signed_arith), omega (arith, signed_arith)), (m.low, m.high), (omega arith, omega (arith, m.within)));
      hour = omega arith;
      minute = omega arith;
      second = omega arith;
      seconds = rw day (omega (arith, signed_arith));
    }

-- ---- and nothing else is

pub record SameDate (y m d y2 m2 d2 : ℕ) : Type 0 where
  pub year : y ≡ y2
  pub month : m ≡ m2
  pub day : d ≡ d2

same_day_count : (y m d y2 m2 d2 : ℕ) → days_from_civil (pos y) m d ≡ days_from_civil (pos y2) m2 d2 → day_count (pos y) m d ≡ day_count (pos y2) m2 d2
same_day_count y m d y2 m2 d2 e =
    omega (arith, signed_arith, days_from_civil-day_count (pos y) m d, days_from_civil-day_count (pos y2) m2 d2)

one_date : (y m d y2 m2 d2 : ℕ) → IsCivilDate (pos y) m d → IsCivilDate (pos y2) m2 d2 → day_count (pos y) m d ≡ day_count (pos y2) m2 d2 → SameDate y m d y2 m2 d2
one_date y m d y2 m2 d2 h k e =
    elim (cases_order y y2) [
      | inr (inl lt) ↦ absurd (omega (arith, day_count-lt_year (pos y) m d (pos y2) m2 d2 h k.2.0 (omega (arith, signed_arith))))
      | inr (inr gt) ↦ absurd (omega (arith, day_count-lt_year (pos y2) m2 d2 (pos y) m d k h.2.0 (omega (arith, signed_arith))))
      | inl year ↦
          let here : day_count (pos y) m d ≡ day_count (pos y) m2 d2 = e ∙ ap (λ (n : ℕ). day_count (pos n) m2 d2) (sym year) in
          let Civil : ℕ → Type 0 = λ n. IsCivilDate (pos n) m2 d2 in
          let k2 = subst Civil (sym year) k in
          elim (cases_order m m2) [
            | inr (inl lt) ↦ absurd (omega (arith, day_count-lt_month (pos y) m d m2 d2 h k.2.0 lt))
            | inr (inr gt) ↦ absurd (omega (arith, day_count-lt_month (pos y) m2 d2 m d k2 h.2.0 gt))
            | inl month ↦
                let there : day_count (pos y) m2 d2 ≡ day_count (pos y) m d2 = ap (λ (n : ℕ). day_count (pos y) n d2) (sym month) in
                record { year = year; month = month; day = omega (arith, day_count-day (pos y) m d d2 h.2.0 k.2.0) }
          ]
    ]

pub shown_once : (moment : ℕ) (a b : UtcTime) → IsUtc moment a → IsUtc moment b → a ≡ b
shown_once moment a b h k =
    let day : days_from_civil (pos a.year) a.month a.day ≡ days_from_civil (pos b.year) b.month b.day = omega (arith, signed_arith, h.seconds, k.seconds, h.hour, h.minute, h.second, k.hour, k.minute, k.second) in
    let clock : a.hour * 3600 + a.minute * 60 + a.second ≡ b.hour * 3600 + b.minute * 60 + b.second = omega (arith, signed_arith, day, h.seconds, k.seconds) in
    let hour : a.hour ≡ b.hour = omega (arith, h.minute, h.second, k.minute, k.second) in
    let minute : a.minute ≡ b.minute = omega (arith, h.minute, h.second, k.minute, k.second) in
    let second : a.second ≡ b.second = omega arith in
    let date = one_date a.year a.month a.day b.year b.month b.day h.date k.date (same_day_count a.year a.month a.day b.year b.month b.day day) in
    λ i. record { year = date.year i; month = date.month i; day = date.day i; hour = hour i; minute = minute i; second = second i }

-- ---- what the library shows

pub record ShownBy (moment : ℕ) (dt : DateTime) : Type 0 where
  pub year : dt.date.year ≡ pos (unsigned_abs dt.date.year)
  pub small : unsigned_abs dt.date.year ≤ 9999
  pub utc : IsUtc moment (record { year = unsigned_abs dt.date.year; month = dt.date.month; day = dt.date.day; hour = dt.time.hour; minute = dt.time.minute; second = dt.time.second })

not_negative : (z : ℤ) → pos 1970 ≤ℤ z → z ≡ pos (unsigned_abs z)
not_negative (pos n) h = refl
not_negative (negsuc n) h = absurd (omega (arith, signed_arith))

pub shown_by : (moment : ℕ) (dt : DateTime) → civil_nanos dt ≡ pos moment *ℤ pos 1_000_000_000 → ShownBy moment dt
unfolding civil_seconds
shown_by moment dt e =
    let seconds : civil_seconds dt ≡ pos moment = omega (arith, signed_arith, civil_nanos-civil_seconds dt, e) in
    let not_before : pos 0 ≤ℤ epoch_day dt.date = omega (arith, signed_arith, seconds) in
    let late : pos 1970 ≤ℤ dt.date.year = by_lt_z dt.date.year (pos 1970)
    (λ lt. absurd (omega (arith, signed_arith, not_before, day_count-epoch, days_from_civil-day_count dt.date.year dt.date.month dt.date.day, day_count-lt_year dt.date.year dt.date.month dt.date.day (pos 1970) 1 1 (civil dt.date) (omega arith) lt)))
    (λ le. le) in
    let year : dt.date.year ≡ pos (unsigned_abs dt.date.year) = not_negative dt.date.year late in
    let Civil : ℤ → Type 0 = λ z. IsCivilDate z dt.date.month dt.date.day in
    let Seconds : ℤ → Type 0 = λ z. (days_from_civil z dt.date.month dt.date.day *ℤ pos 86400) +ℤ pos (dt.time.hour * 3600 + dt.time.minute * 60 + dt.time.second) ≡ pos moment in
    record {
      year = year;
      small = omega (arith, signed_arith, (civil dt.date).0, unsigned_abs-parts dt.date.year);
      utc = record {
        date = subst Civil year (civil dt.date);
        hour = dt.time.hour_in;
        minute = dt.time.minute_in;
        second = dt.time.second_in;
        seconds = subst Seconds year seconds;
      };
    }

pub cast_back : (w : Width) (z : ℤ) (n : ℕ) → z ≡ pos n → n < 2 ^ hbits w → unsigned_abs (to_z w (of_z w z)) ≡ n
cast_back w z n e h = rw e (ap unsigned_abs (back_small w (pos n) h))

-- the seconds of a moment, as the library's signed number
pub moment_in_nanos : (seconds moment : ℕ) (instant shown : ℤ) → seconds ≡ moment → moment ≤ MAX_SECONDS → instant ≡ to_z w64 seconds *ℤ pos 1_000_000_000 → shown ≡ instant +ℤ pos 0 → shown ≡ pos moment *ℤ pos 1_000_000_000
moment_in_nanos seconds moment instant shown same h e k =
    let small = to_z_pos w64 seconds (omega arith) in
    let read = rw small at e in omega (arith, signed_arith, read)

pub record Casts (dt : DateTime) (y m d h i s : ℤ) : Type 0 where
  pub year : y ≡ dt.date.year
  pub month : m ≡ pos dt.date.month
  pub day : d ≡ pos dt.date.day
  pub hour : h ≡ pos dt.time.hour
  pub minute : i ≡ pos dt.time.minute
  pub second : s ≡ pos dt.time.second

abbrev pub cast_to_time : ℤ → ℤ → ℤ → ℤ → ℤ → ℤ → UtcTime
cast_to_time y m d h i s = record {
  year = unsigned_abs (to_z w16 (of_z w16 y));
  month = unsigned_abs (to_z w8 (of_z w8 m));
  day = unsigned_abs (to_z w8 (of_z w8 d));
  hour = unsigned_abs (to_z w8 (of_z w8 h));
  minute = unsigned_abs (to_z w8 (of_z w8 i));
  second = unsigned_abs (to_z w8 (of_z w8 s));
}

abbrev time_of : DateTime → UtcTime
time_of dt = record { year = unsigned_abs dt.date.year; month = dt.date.month; day = dt.date.day; hour = dt.time.hour; minute = dt.time.minute; second = dt.time.second }

cast_is : (moment : ℕ) (dt : DateTime) (y m d h i s : ℤ) → ShownBy moment dt → Casts dt y m d h i s → cast_to_time y m d h i s ≡ time_of dt
cast_is moment dt y m d h i s shown casts =
    let small = shown.small in
    let date = civil dt.date in
    let long = days_in_month_bounds dt.date.year dt.date.month in
    let year = cast_back w16 y (unsigned_abs dt.date.year) (casts.year ∙ shown.year) (omega arith) in
    let month = cast_back w8 m dt.date.month casts.month (omega (arith, date.1)) in
    let day = cast_back w8 d dt.date.day casts.day (omega (arith, date.2)) in
    let hour = cast_back w8 h dt.time.hour casts.hour (omega (arith, dt.time.hour_in)) in
    let minute = cast_back w8 i dt.time.minute casts.minute (omega (arith, dt.time.minute_in)) in
    let second = cast_back w8 s dt.time.second casts.second (omega (arith, dt.time.second_in)) in
    λ j. record { year = year j; month = month j; day = day j; hour = hour j; minute = minute j; second = second j }

pub cast_shown : (moment : ℕ) (dt : DateTime) (y m d h i s : ℤ) → ShownBy moment dt → Casts dt y m d h i s → IsUtc moment (cast_to_time y m d h i s)
cast_shown moment dt y m d h i s shown casts =
    let Shown : UtcTime → Type 0 = λ t. IsUtc moment t in
    subst Shown (sym (cast_is moment dt y m d h i s shown casts)) shown.utc

-- the year fits its type, and is not negative
pub year_fits : (moment : ℕ) (dt : DateTime) (y : ℤ) → ShownBy moment dt → y ≡ dt.date.year → to_z w16 (of_z w16 y) ≡ pos (unsigned_abs dt.date.year)
year_fits moment dt y shown e =
    let small = shown.small in
    ap (λ (z : ℤ). to_z w16 (of_z w16 z)) (e ∙ shown.year) ∙ back_small w16 (pos (unsigned_abs dt.date.year)) (omega arith)

-- ---- two digits

pub two_digits_padded : (n : ℕ) → n < 100 → padded_integral (format_spec 32 0 4 2 (2 ^ 64 - 1)) false [] (decimal n) ≡ two_digits n
unfolding padded_integral char_count
two_digits_padded n small =
    elim (cases_lt n 10) [
      | inl one ↦ let high : n / 10 ≡ 0 = omega arith in let low : n % 10 ≡ n = omega arith in rw (decimal_digit n one, high, low)
      | inr two ↦ rw (decimal_step n two (omega arith), decimal_digit (n / 10) (omega arith))
    ]

pub two_digits_styled : (n : ℕ) → n < 100 → styled_decimal (format_spec 32 0 4 2 (2 ^ 64 - 1)) n ≡ two_digits n
two_digits_styled n small = two_digits_padded n small

-- ---- pieces that are appended one after another

pub appended : (b b1 b2 b3 b4 b5 b6 b7 b8 y z m d dash h i s : List ℕ) → b1 ≡ b ++ y → b2 ≡ b1 ++ z → b3 ≡ b2 ++ m → b4 ≡ b3 ++ d → b5 ≡ b4 ++ dash → b6 ≡ b5 ++ h → b7 ≡ b6 ++ i → b8 ≡ b7 ++ s → b8 ≡ b ++ (((y ++ z) ++ m ++ d) ++ dash ++ (h ++ i ++ s))
appended b b1 b2 b3 b4 b5 b6 b7 b8 y z m d dash h i s e1 e2 e3 e4 e5 e6 e7 e8 =
    rw (e8, e7, e6, e5, e4, e3, e2, e1) (simp append_assoc)
