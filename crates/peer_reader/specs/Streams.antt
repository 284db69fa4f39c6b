-- The changes of a peer's stream (Block Exchange Protocol v1).
use Rattle.std.specs.Prelude.{ℕ, true, List}
use Rattle.bep_frames.specs.Stream.{stream}
use Rattle.bep_session.specs.declared.event.Event.{Event}
use Rattle.bep_session.specs.Events.{after_stream}
use Rattle.bep_session.specs.Sessions.{begun}
use Rattle.peer_reader.specs.Effects.{Effect, Heard}
use Rattle.peer_reader.specs.Reading.{after_events}
use Rattle.sync_record.specs.Devices.{Identity}

-- the events of all messages of a stream that begins with the Hello, up to a Close or a fault, where nothing was asked
abbrev pub stream_events : List ℕ → List Event
stream_events bytes = (after_stream 0 (begun 0).conversation (stream true bytes)).events

-- what the whole stream comes to
abbrev pub stream_effect : Identity → List Heard → List ℕ → Effect
stream_effect peer fs bytes = after_events peer fs (stream_events bytes)
