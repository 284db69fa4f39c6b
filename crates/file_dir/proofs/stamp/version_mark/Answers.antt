use Rattle.std.proofs.Common.{◌≡◌, ◌≤◌, ◌∙◌, ap, sym, subst, arith}
use Rattle.std.proofs.lemmas.Result.{IfOk-at_ok}
use Rattle.std.specs.Str.{IsAscii}
use Rattle.sync_names.specs.Utc.{utc_time}
use Rattle.sync_names.proofs.UtcLemmas.{Casts, cast_to_time, shown_by, moment_in_nanos, cast_shown, year_fits, shown_once, utc_time_shown}
use Rattle.sync_version.specs.declared.moment.TheConstants.Moment.{MAX_SECONDS}
use Rattle.file_dir.proofs.VersionLemmas.{bounds, mark_of, mark_ascii, marked}
use Rattle.file_dir.proofs.stamp.version_mark.Goals as goal

pub overflow_cast-year : goal.overflow_cast-year
overflow_cast-year c =
    let moment = c.args.moment in
    let instant = IfOk-at_ok _ c.unwrap-instant.ensures c.from_second.ensures.value in
    let in_range : moment ≤ MAX_SECONDS = omega (arith, c.seconds.ensures.value, c.seconds.ensures.range) in
    let nanos = moment_in_nanos c.seconds.result moment c.unwrap-instant.result.nanosecond _ c.seconds.ensures.value in_range instant c.to_datetime-shown.ensures in
    let shown = shown_by moment c.to_datetime-shown.result nanos in
    let fits = year_fits moment c.to_datetime-shown.result c.year-year.result shown c.year-year.ensures in
    let small = shown.small in
    rw fits (tt, omega arith)

pub returns-clause-value : goal.returns-clause-value
returns-clause-value c =
    let moment = c.args.moment in
    let instant = IfOk-at_ok _ c.unwrap-instant.ensures c.from_second.ensures.value in
    let in_range : moment ≤ MAX_SECONDS = omega (arith, c.seconds.ensures.value, c.seconds.ensures.range) in
    let nanos = moment_in_nanos c.seconds.result moment c.unwrap-instant.result.nanosecond _ c.seconds.ensures.value in_range instant c.to_datetime-shown.ensures in
    let shown = shown_by moment c.to_datetime-shown.result nanos in
    let casts : Casts c.to_datetime-shown.result c.year-year.result c.month.result c.day.result c.hour.result c.minute.result c.second.result = record { year = c.year-year.ensures; month = c.month.ensures; day = c.day.ensures; hour = c.hour.ensures; minute = c.minute.ensures; second = c.second.ensures } in
    let is : cast_to_time c.year-year.result c.month.result c.day.result c.hour.result c.minute.result c.second.result ≡ utc_time moment
    = shown_once moment _ _ (cast_shown moment c.to_datetime-shown.result _ _ _ _ _ _ shown casts) (utc_time_shown moment in_range) in
    marked (cast_to_time c.year-year.result c.month.result c.day.result c.hour.result c.minute.result c.second.result) _ _ _ _ _ _ _ c.two_digits.ensures c.two_digits-2.ensures c.two_digits-3.ensures c.two_digits-4.ensures c.two_digits-5.ensures c.two_digits-6.ensures c.two_digits-7.ensures ∙ ap mark_of is

pub returns-clause-ascii : goal.returns-clause-ascii
returns-clause-ascii c =
    let moment = c.args.moment in
    let instant = IfOk-at_ok _ c.unwrap-instant.ensures c.from_second.ensures.value in
    let in_range : moment ≤ MAX_SECONDS = omega (arith, c.seconds.ensures.value, c.seconds.ensures.range) in
    let nanos = moment_in_nanos c.seconds.result moment c.unwrap-instant.result.nanosecond _ c.seconds.ensures.value in_range instant c.to_datetime-shown.ensures in
    let shown = shown_by moment c.to_datetime-shown.result nanos in
    let casts : Casts c.to_datetime-shown.result c.year-year.result c.month.result c.day.result c.hour.result c.minute.result c.second.result = record { year = c.year-year.ensures; month = c.month.ensures; day = c.day.ensures; hour = c.hour.ensures; minute = c.minute.ensures; second = c.second.ensures } in
    let time = cast_to_time c.year-year.result c.month.result c.day.result c.hour.result c.minute.result c.second.result in
    subst IsAscii (sym (marked time _ _ _ _ _ _ _ c.two_digits.ensures c.two_digits-2.ensures c.two_digits-3.ensures c.two_digits-4.ensures c.two_digits-5.ensures c.two_digits-6.ensures c.two_digits-7.ensures)) (mark_ascii time (bounds moment time (cast_shown moment c.to_datetime-shown.result _ _ _ _ _ _ shown casts)))
