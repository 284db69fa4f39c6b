-- How long a peer that says nothing is waited for, and when it is asked no more (own rule).
use Rattle.std.specs.Prelude.{ℕ, ◌+◌, ◌-◌, ◌^◌, ◌%◌, ◌==◌, ◌&&◌, ◌||◌, Bool, if◌then◌else◌, min, nat_lt}
use Rattle.peer_asks.specs.declared.silence.Patience.{Patience}
use Rattle.peer_asks.specs.declared.silence.Silences.{Silences}

-- one more, as far as a number of 32 bits holds it
abbrev pub next : ℕ → ℕ
next n = min (n + 1) (2 ^ 32 - 1)

-- a wait that begins after so many pieces of bytes
abbrev pub at_first : ℕ → Patience
at_first pieces = record { pieces = pieces; silent = 0; unanswered = 0 }

-- ten seconds passed without a Response, and there are so many pieces by now: it was silent if no more came
abbrev pub after_step : ℕ → Patience → Patience
after_step pieces p = record {
  pieces = pieces;
  silent = if pieces == p.pieces then next p.silent else 0;
  unanswered = next p.unanswered;
}

-- a minute passed without a byte, or five without a Response
abbrev pub is_over : Patience → Bool
is_over p = nat_lt 5 p.silent || nat_lt 29 p.unanswered

abbrev pub never_silent : Silences
never_silent = record { count = 0; running = 0; until = 0 }

-- all Requests are given up at this second
abbrev pub silent_once_more : ℕ → Silences → Silences
silent_once_more now s = record { count = (s.count + 1) % 2 ^ 64; running = next s.running; until = min (now + 300) (2 ^ 64 - 1) }

-- a Response came
abbrev pub heard : Silences → Silences
heard s = record s { running = 0 }

-- it was silent three times running, and less than five minutes ago
abbrev pub is_left_alone : ℕ → Silences → Bool
is_left_alone now s = nat_lt 2 s.running && nat_lt now s.until
