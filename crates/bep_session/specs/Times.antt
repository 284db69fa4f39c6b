-- When something is due on a connection, in seconds (Block Exchange Protocol v1, "Ping"; own rule for the second).
use Rattle.std.specs.Prelude.{ℕ, ◌-◌, nat_le, if◌then◌else◌}
use Rattle.bep_session.specs.declared.times.Tick.{Tick}
use Rattle.bep_session.specs.declared.times.Tick.TheVariants.{Nothing, PingDue, TimedOut}

abbrev pub ping_seconds : ℕ
ping_seconds = 90

abbrev pub timeout_seconds : ℕ
timeout_seconds = 300

-- Of moments; a moment before the last one is 0 seconds after it.
abbrev pub tick_at : ℕ → ℕ → ℕ → Tick
tick_at received said moment =
    if nat_le timeout_seconds (moment - received) then TimedOut else if nat_le ping_seconds (moment - said) then PingDue else Nothing
