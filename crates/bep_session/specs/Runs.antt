-- What happens on a connection from its beginning, by whole streams (own rule).
use Rattle.std.specs.Prelude.{ℕ, ℤ, true, List, [], ◌∷◌, ◌++◌, length, drop}
use Rattle.bep_frames.specs.Stream.{Stream, stream}
use Rattle.bep_session.specs.declared.event.Event.{Event}
use Rattle.bep_session.specs.declared.conversation.Conversation.{Conversation}
use Rattle.bep_session.specs.Events.{after_stream}
use Rattle.bep_session.specs.Ids.{opened}
use Rattle.bep_session.specs.Sessions.{Fed, View, fed, said_at, with_open}

-- one thing that happens: a piece is fed, an id is opened (by `ask` or by `book`), a message is said, or it is asked what is due
pub data Act : Type 0 where
  Feeds : (piece : List ℕ) (moment : ℕ) → Act
  Opens : (id : ℤ) → Act
  Says : (moment : ℕ) → Act
  Ticks : (moment : ℕ) → Act

-- ---- by the calls of a session

abbrev pub still : View → Fed
still v = record { session = v; events = [] }

abbrev pub acted : View → Act → Fed
acted v (Feeds piece moment) = fed v piece moment
acted v (Opens id) = still (with_open v id)
acted v (Says moment) = still (said_at v moment)
acted v (Ticks moment) = still v

-- all that happens, and its events in order
unfoldable pub run : View → List Act → Fed
run v [] = still v
run v (act ∷ acts) =
    let later = run (acted v act).session acts in
    record { session = later.session; events = (acted v act).events ++ later.events }

-- ---- by the whole stream: no bytes are kept between two pieces

-- the frames that a piece makes whole: those of all bytes with it, without those of the bytes before; and how the stream then ends
abbrev pub arriving : List ℕ → List ℕ → Stream
arriving before piece =
    let all = stream true (before ++ piece) in
    record { frames = drop (length (stream true before).frames) all.frames; end = all.end }

-- the events of all that happens, after these bytes and what they left behind
unfoldable pub events_of_run : List ℕ → Conversation → List Act → List Event
events_of_run before t [] = []
events_of_run before t (Feeds piece moment ∷ acts) =
    let outcomes = after_stream moment t (arriving before piece) in
    outcomes.events ++ events_of_run (before ++ piece) outcomes.conversation acts
events_of_run before t (Opens id ∷ acts) = events_of_run before (record t { asks = opened t.asks id }) acts
events_of_run before t (Says moment ∷ acts) = events_of_run before (record t { said = moment }) acts
events_of_run before t (Ticks moment ∷ acts) = events_of_run before t acts
