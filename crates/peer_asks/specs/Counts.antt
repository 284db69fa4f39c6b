-- What is counted of Responses that bring no bytes (own rule).
use Rattle.std.specs.Prelude.{◌≡◌, ℕ, ◌+◌, ◌-◌, ◌^◌, List, min}
use Rattle.bep_messages.specs.declared.response.Response.{Response}
use Rattle.peer_asks.specs.Asks.{HasAnswered}
use Rattle.peer_asks.specs.declared.table.AskState.{AskState}
use Rattle.peer_asks.specs.declared.counts.AskCounts.{AskCounts}
use Rattle.peer_asks.specs.declared.table.Arrival.{Arrival}
use Rattle.peer_asks.specs.declared.table.Arrival.TheVariants.{Data, Refused, WrongSize, Late, Unknown}

abbrev pub no_counts : AskCounts
no_counts = record { unknown = 0; late = 0; wrong_size = 0; refused = 0 }

-- one more, as far as a number of 64 bits holds it
abbrev pub one_more : ℕ → ℕ
one_more n = min (n + 1) (2 ^ 64 - 1)

abbrev pub counted : Arrival → AskCounts → AskCounts
counted Data c = c
counted Refused c = record c { refused = one_more c.refused }
counted WrongSize c = record c { wrong_size = one_more c.wrong_size }
counted Late c = record c { late = one_more c.late }
counted Unknown c = record c { unknown = one_more c.unknown }

-- a Response was taken, and what it brought was counted
abbrev pub HasCounted : List AskState → Response → List AskState → AskCounts → AskCounts → Type 0
HasCounted old r new before after = (arrival : Arrival) × HasAnswered old r new arrival × (after ≡ counted arrival before)
