use Rattle.std.proofs.Common.{◌≡◌, ◌≤◌, arith, ap, pos, refl}
use Rattle.std.proofs.lemmas.Result.{IfOk-at_ok}
use Rattle.sync_names.specs.Utc.{utc_time}
use Rattle.sync_names.proofs.UtcLemmas.{Casts, cast_to_time, shown_by, moment_in_nanos, cast_shown, year_fits, shown_once, utc_time_shown}
use Rattle.sync_version.specs.declared.moment.TheConstants.Moment.{MAX_SECONDS}
use Rattle.node_status.proofs.times.date_of.Goals as goal
use Rattle.node_status.proofs.times.date_of.Goals.{After-day}

pub overflow_cast-result : goal.overflow_cast-result
overflow_cast-result c =
    let moment = c.args.moment in
    let instant = IfOk-at_ok _ c.unwrap-instant.ensures c.from_second.ensures.value in
    let in_range : moment ≤ MAX_SECONDS = omega (arith, c.seconds.ensures.value, c.seconds.ensures.range) in
    let nanos = moment_in_nanos c.seconds.result moment c.unwrap-instant.result.nanosecond _ c.seconds.ensures.value in_range instant c.to_datetime-shown.ensures in
    let shown = shown_by moment c.to_datetime-shown.result nanos in
    let fits = year_fits moment c.to_datetime-shown.result c.year.result shown c.year.ensures in
    let small = shown.small in
    rw fits (tt, omega arith)

-- the date, with the time of day of the same moment
whole : (c : After-day) → cast_to_time c.year.result c.month.result c.day.result (pos c.to_datetime-shown.result.time.hour) (pos c.to_datetime-shown.result.time.minute) (pos c.to_datetime-shown.result.time.second) ≡ utc_time c.args.moment
whole c =
    let moment = c.args.moment in
    let instant = IfOk-at_ok _ c.unwrap-instant.ensures c.from_second.ensures.value in
    let in_range : moment ≤ MAX_SECONDS = omega (arith, c.seconds.ensures.value, c.seconds.ensures.range) in
    let nanos = moment_in_nanos c.seconds.result moment c.unwrap-instant.result.nanosecond _ c.seconds.ensures.value in_range instant c.to_datetime-shown.ensures in
    let shown = shown_by moment c.to_datetime-shown.result nanos in
    let time = c.to_datetime-shown.result.time in
    let casts : Casts c.to_datetime-shown.result c.year.result c.month.result c.day.result (pos time.hour) (pos time.minute) (pos time.second) = record { year = c.year.ensures; month = c.month.ensures; day = c.day.ensures; hour = refl; minute = refl; second = refl } in
    shown_once moment _ _ (cast_shown moment c.to_datetime-shown.result _ _ _ _ _ _ shown casts) (utc_time_shown moment in_range)

pub returns-clause-year : goal.returns-clause-year
returns-clause-year c = ap (λ t. t.year) (whole c)

pub returns-clause-month : goal.returns-clause-month
returns-clause-month c = ap (λ t. t.month) (whole c)

pub returns-clause-day : goal.returns-clause-day
returns-clause-day c = ap (λ t. t.day) (whole c)
