use Rattle.std.proofs.Common.{◌≤◌, ◌++◌, arith, codes, rules}
use Rattle.sync_names.specs.Utc.{utc_time}
use Rattle.sync_version.specs.declared.moment.TheConstants.Moment.{MAX_SECONDS}
use Rattle.node_status.specs.Numbers.{number_text}
use Rattle.node_status.specs.Times.{clock_text, date_text}
use Rattle.node_status.proofs.Steps.{both, last, last_text}
use Rattle.node_status.proofs.TimeLemmas.{moment_shown, moment_late}
use Rattle.node_status.proofs.times.push_moment.Goals as goal

pub returns-in_ok-push_str-in-Some : goal.returns-in_ok-push_str-in-Some
returns-in_ok-push_str-in-Some c =
    let within : c.args.seconds ≤ MAX_SECONDS = c.in-Some.ensures.range.0 (search rules) in
    let shown = moment_shown c.args.seconds within in
    let same = c.in-Some.ensures.value in
    let date = rw (c.date_of.ensures.year, c.date_of.ensures.month, c.date_of.ensures.day, same) at c.in_ok-push_date-in-Some.ensures in
    let day = date_text (utc_time c.args.seconds) in
    let front = both _ _ _ day (codes " ") date c.in_ok-push_str-in-Some.ensures.bytes in
    rw shown (last c.push_clock.result _ _ _ (day ++ codes " ") (clock_text c.args.seconds) front c.push_clock.ensures)

pub returns-in_ok-push_number-in-None : goal.returns-in_ok-push_number-in-None
returns-in_ok-push_number-in-None c =
    let late = moment_late c.args.seconds (λ h. let none = c.in-None.ensures.range.1 h in grind arith) in
    rw late (last_text c.push_str-in-None.result _ _ _ (number_text c.args.seconds) (codes " s after 1970") c.in_ok-push_number-in-None.ensures c.push_str-in-None.ensures.bytes)
