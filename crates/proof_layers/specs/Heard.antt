-- Messages that one end of a connection says and the other hears (Block Exchange Protocol v1, "Post-authentication Messages").
use Rattle.std.specs.Prelude.{◌≡◌, ⊤, ℕ, List, [], true, false}
use Rattle.std.specs.Option.{option_to_list}
use Rattle.bep_frames.specs.declared.frame.Frame.{Frame}
use Rattle.bep_session.specs.Events.{after_frame}
use Rattle.bep_session.specs.declared.event.Event.{Event}
use Rattle.bep_session.specs.Sessions.{View}
use Rattle.bep_session.specs.declared.conversation.Stage.{Stage}
use Rattle.bep_session.specs.declared.conversation.Stage.TheVariants.{Opening, Running, Over}

-- The Hello and the ClusterConfig came, and the last frame is whole: the next byte begins a message.
pub record IsOpen (v : View) : Type 0 where
  pub hello : v.hello ≡ false
  pub rest : v.rest ≡ []
  pub stage : v.conversation.stage ≡ Running

-- nothing was fed to it yet
pub record HasHeardNothing (v : View) : Type 0 where
  pub hello : v.hello ≡ true
  pub rest : v.rest ≡ []
  pub stage : v.conversation.stage ≡ Opening

-- it has not ended
abbrev pub IsLive : Stage → Type 0
IsLive Opening = ⊤
IsLive Running = ⊤
IsLive Over = ⊥

-- A frame comes to a session between two frames: its event is the only one, and the session is again between two frames.
pub record HearsAlone (old : View) (f : Frame) (moment : ℕ) (events : List Event) (new : View) : Type 0 where
  pub events_are : events ≡ option_to_list (after_frame moment old.conversation f).event
  pub session : new ≡ record { hello = false; rest = []; conversation = (after_frame moment old.conversation f).conversation }
