use Rattle.std.proofs.Common.{◌≤◌, arith}
use Rattle.std.proofs.lemmas.Result.{IfOk-at_ok}
use Rattle.sync_names.proofs.UtcLemmas.{Casts, shown_by, moment_in_nanos, cast_shown, year_fits, shown_once, utc_time_shown}
use Rattle.sync_version.specs.declared.moment.TheConstants.Moment.{MAX_SECONDS}
use Rattle.sync_names.proofs.utc.UtcTime.at.Goals as goal

pub overflow_cast-result : goal.overflow_cast-result
overflow_cast-result c =
    let moment = c.args.moment in
    let instant = IfOk-at_ok _ c.unwrap-instant.ensures c.from_second.ensures.value in
    let in_range : moment ≤ MAX_SECONDS = omega (arith, c.seconds.ensures.value, c.seconds.ensures.range) in
    let nanos = moment_in_nanos c.seconds.result moment c.unwrap-instant.result.nanosecond _ c.seconds.ensures.value in_range instant c.to_datetime-shown.ensures in
    let shown = shown_by moment c.to_datetime-shown.result nanos in
    let fits = year_fits moment c.to_datetime-shown.result c.year.result shown c.year.ensures in
    let small = shown.small in
    rw fits (tt, omega arith)

pub returns-clause-shown : goal.returns-clause-shown
returns-clause-shown c =
    let moment = c.args.moment in
    let instant = IfOk-at_ok _ c.unwrap-instant.ensures c.from_second.ensures.value in
    let in_range : moment ≤ MAX_SECONDS = omega (arith, c.seconds.ensures.value, c.seconds.ensures.range) in
    let nanos = moment_in_nanos c.seconds.result moment c.unwrap-instant.result.nanosecond _ c.seconds.ensures.value in_range instant c.to_datetime-shown.ensures in
    let shown = shown_by moment c.to_datetime-shown.result nanos in
    let casts : Casts c.to_datetime-shown.result c.year.result c.month.result c.day.result c.hour.result c.minute.result c.second.result = record { year = c.year.ensures; month = c.month.ensures; day = c.day.ensures; hour = c.hour.ensures; minute = c.minute.ensures; second = c.second.ensures } in
    cast_shown moment c.to_datetime-shown.result _ _ _ _ _ _ shown casts

pub returns-clause-value : goal.returns-clause-value
returns-clause-value c =
    let moment = c.args.moment in
    let instant = IfOk-at_ok _ c.unwrap-instant.ensures c.from_second.ensures.value in
    let in_range : moment ≤ MAX_SECONDS = omega (arith, c.seconds.ensures.value, c.seconds.ensures.range) in
    let nanos = moment_in_nanos c.seconds.result moment c.unwrap-instant.result.nanosecond _ c.seconds.ensures.value in_range instant c.to_datetime-shown.ensures in
    let shown = shown_by moment c.to_datetime-shown.result nanos in
    let casts : Casts c.to_datetime-shown.result c.year.result c.month.result c.day.result c.hour.result c.minute.result c.second.result = record { year = c.year.ensures; month = c.month.ensures; day = c.day.ensures; hour = c.hour.ensures; minute = c.minute.ensures; second = c.second.ensures } in
    shown_once moment _ _ (cast_shown moment c.to_datetime-shown.result _ _ _ _ _ _ shown casts) (utc_time_shown moment in_range)
