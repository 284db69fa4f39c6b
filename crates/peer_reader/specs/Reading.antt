-- What a reader makes of the bytes that it reads (own rule).
use Rattle.std.specs.Prelude.{◌≡◌, ◌⊎◌, ⊤, ℕ, Bool, true, false, List, [], ◌∷◌, ◌++◌, map, Option}
use Rattle.std.specs.declared.io.ErrorKind.{ErrorKind}
use Rattle.std.specs.declared.io.ErrorKind.TheVariants as kind
use Rattle.std.specs.Io.KnownBytes.{Consumes, IsAtEnd}
use Rattle.bep_session.specs.declared.event.Event.{Event}
use Rattle.bep_session.specs.Runs.{Act, Feeds, Opens, Says, Ticks, run}
use Rattle.bep_session.specs.Sessions.{View, begun, fed}
use Rattle.bep_session.specs.Times.{tick_at}
use Rattle.bep_session.specs.declared.times.Tick.TheVariants.{TimedOut}
use Rattle.folder_calls.specs.Shared.{CallerView}
use Rattle.peer_reader.specs.Counts.{no_counts}
use Rattle.peer_reader.specs.Effects.{Effect, Heard, after_event, no_effect}
use Rattle.peer_reader.specs.Hears.{AsksEach, Stops, applied, heard_of}
use Rattle.peer_reader.specs.declared.counts.ReaderCounts.{ReaderCounts}
use Rattle.peer_reader.specs.declared.folder.ReaderFolder.{ReaderFolder}
use Rattle.peer_reader.specs.declared.stop.ReaderStop.{ReaderStop}
use Rattle.peer_reader.specs.declared.stop.ReaderStop.TheVariants as stop
use Rattle.sync_record.specs.Devices.{Identity}

-- a read that failed so may give something if it is made again
abbrev pub is_for_now : ErrorKind → Bool
is_for_now kind.Interrupted = true
is_for_now kind.WouldBlock = true
is_for_now kind.TimedOut = true
is_for_now _ = false

abbrev pub then_effect : Effect → Effect → Effect
then_effect first later =
    record { folders = later.folders; made = first.made ++ later.made; count = λ c. later.count (first.count c) }

-- what events come to, one after another
abbrev pub after_events : Identity → List Heard → List Event → Effect
after_events peer fs [] = no_effect fs
after_events peer fs (e ∷ es) = then_effect (after_event peer fs e) (after_events peer (after_event peer fs e).folders es)

-- the bytes of all pieces
abbrev pub fed_of : List Act → List ℕ
fed_of [] = []
fed_of (Feeds piece moment ∷ acts) = piece ++ fed_of acts
fed_of (Opens id ∷ acts) = fed_of acts
fed_of (Says moment ∷ acts) = fed_of acts
fed_of (Ticks moment ∷ acts) = fed_of acts

-- ids are opened
abbrev pub AreOpenings : List Act → Type 0
AreOpenings [] = ⊤
AreOpenings (Opens id ∷ acts) = AreOpenings acts
AreOpenings (_ ∷ acts) = ⊥

-- ids were opened, and nothing was fed
pub record OnlyOpens (old new : View) : Type 0 where
  pub acts : List Act
  pub only : AreOpenings acts
  pub session : new ≡ (run old acts).session
  pub events : (run old acts).events ≡ []
  pub bytes : fed_of acts ≡ []

module _ {W F : Type 0} (view : W → CallerView) (folder : W → F) where
  -- all events were heard: their changes were made, and nothing else was asked for
  pub record HasHeardAll (peer : Identity) (events : List Event) (olds : List (ReaderFolder W)) (counts : ReaderCounts) (news : List (ReaderFolder W)) (later : ReaderCounts) : Type 0 where
    pub heard : map heard_of news ≡ (after_events peer (map heard_of olds) events).folders
    pub asks : AsksEach view folder 0 (map applied (after_events peer (map heard_of olds) events).made) olds news
    pub counts_are : later ≡ (after_events peer (map heard_of olds) events).count counts

  -- it stopped at one of the events
  pub record StopsIn (peer : Identity) (events : List Event) (olds : List (ReaderFolder W)) (counts : ReaderCounts) (why : ReaderStop) (news : List (ReaderFolder W)) (later : ReaderCounts) : Type 0 where
    pub before : List Event
    pub event : Event
    pub after : List Event
    pub divided : events ≡ before ++ event ∷ after
    pub mids : List (ReaderFolder W)
    pub counts_before : ReaderCounts
    pub heard : HasHeardAll peer before olds counts mids counts_before
    pub stops : Stops view folder peer event mids counts_before why news later

  -- Ids were opened and a piece was fed, all of whose events were heard.
  pub record HearsPiece (peer : Identity) (session : View) (olds : List (ReaderFolder W)) (counts : ReaderCounts) (piece : List ℕ) (moment : ℕ) (after : View) (news : List (ReaderFolder W)) (later : ReaderCounts) : Type 0 where
    pub opened : View
    pub opens : OnlyOpens session opened
    pub after_is : after ≡ (fed opened piece moment).session
    pub heard : HasHeardAll peer (fed opened piece moment).events olds counts news later

  -- It stopped at one of its events, or memory ran out before any was heard.
  abbrev pub StopsInPiece : Identity → View → List (ReaderFolder W) → ReaderCounts → List ℕ → ℕ → ReaderStop → List (ReaderFolder W) → ReaderCounts → Type 0
  StopsInPiece peer session olds counts piece moment why news later =
      ((opened : View) × OnlyOpens session opened × StopsIn peer (fed opened piece moment).events olds counts why news later)
      ⊎ ((why ≡ stop.OutOfMemory) × (news ≡ olds) × (later ≡ counts))

  -- Pieces were read, between which ids were opened; the events of them all were heard. After them these bytes were taken.
  pub record ReadsAll (peer : Identity) (given left : Option (List ℕ)) (lost : List ℕ) (olds : List (ReaderFolder W)) (news : List (ReaderFolder W)) (counts : ReaderCounts) : Type 0 where
    pub moment : ℕ
    pub acts : List Act
    pub taken : Consumes given left (fed_of acts ++ lost)
    pub heard : HasHeardAll peer (run (begun moment) acts).events olds no_counts news counts

  pub record ReadsUpTo (peer : Identity) (given left : Option (List ℕ)) (olds : List (ReaderFolder W)) (why : ReaderStop) (news : List (ReaderFolder W)) (counts : ReaderCounts) : Type 0 where
    pub moment : ℕ
    pub acts : List Act
    pub taken : Consumes given left (fed_of acts)
    pub stops : StopsIn peer (run (begun moment) acts).events olds no_counts why news counts

  -- How a reader ends: where all that it read was heard; at a Close, a fault or a refused change; or out of memory, which may lose
  -- the last piece.
  abbrev pub ReadsTo : Identity → Option (List ℕ) → Option (List ℕ) → List (ReaderFolder W) → ReaderStop → List (ReaderFolder W) → ReaderCounts → Type 0
  ReadsTo peer given left olds stop.InputEnded news counts = ReadsAll peer given left [] olds news counts × IsAtEnd left
  ReadsTo peer given left olds (stop.Read kind) news counts = ReadsAll peer given left [] olds news counts × (is_for_now kind ≡ false)
  ReadsTo peer given left olds stop.TimedOut news counts = ReadsAll peer given left [] olds news counts
  ReadsTo peer given left olds (stop.Closed reason) news counts = ReadsUpTo peer given left olds (stop.Closed reason) news counts
  ReadsTo peer given left olds (stop.Fault fault) news counts = ReadsUpTo peer given left olds (stop.Fault fault) news counts
  ReadsTo peer given left olds stop.HistoryFull news counts = ReadsUpTo peer given left olds stop.HistoryFull news counts
  ReadsTo peer given left olds stop.OutOfMemory news counts =
      ((lost : List ℕ) × ReadsAll peer given left lost olds news counts) ⊎ ReadsUpTo peer given left olds stop.OutOfMemory news counts

-- it ends at an event, or out of memory
abbrev pub IsOfEvents : ReaderStop → Type 0
IsOfEvents stop.InputEnded = ⊥
IsOfEvents (stop.Read kind) = ⊥
IsOfEvents stop.TimedOut = ⊥
IsOfEvents _ = ⊤

-- the last read failed so
abbrev pub HasFailed : {I : Type 0} → (I → ErrorKind → I → Type 0) → ReaderStop → I → Type 0
HasFailed {I} fails (stop.Read kind) left = (before : I) × fails before kind left
HasFailed fails _ left = ⊤

-- what a clock shows at a look after the one that showed the first of these: the next, or one after it
pub data ShowsLater (shows : ℕ → ℕ → Type 0) (last : ℕ) : ℕ → Type 0 where
  at_the_next_look : (now : ℕ) → shows last now → ShowsLater shows last now
  at_a_later_look : (mid now : ℕ) → ShowsLater shows last mid → shows mid now → ShowsLater shows last now

-- pieces are fed, each at the moment of a look after that of the one before, and ids are opened
abbrev pub AreTimed : (ℕ → ℕ → Type 0) → ℕ → List Act → Type 0
AreTimed shows last [] = ⊤
AreTimed shows last (Feeds piece moment ∷ acts) = ShowsLater shows last moment × AreTimed shows moment acts
AreTimed shows last (Opens id ∷ acts) = AreTimed shows last acts
AreTimed shows last (_ ∷ acts) = ⊥

-- the moment of the last piece, or this one where there is none
abbrev pub last_fed : ℕ → List Act → ℕ
last_fed last [] = last
last_fed last (Feeds piece moment ∷ acts) = last_fed moment acts
last_fed last (Opens id ∷ acts) = last_fed last acts
last_fed last (Says moment ∷ acts) = last_fed last acts
last_fed last (Ticks moment ∷ acts) = last_fed last acts

-- A session that was begun at the moment of a look, and was fed just the bytes that were taken, each piece at that of a later look than
-- the one before, says at the last of these moments, or at that of a look after it, that no whole message came for too long.
pub record HasTimedOut (shows : ℕ → ℕ → Type 0) (given left : Option (List ℕ)) : Type 0 where
  pub moment : ℕ
  pub acts : List Act
  pub now : ℕ
  pub taken : Consumes given left (fed_of acts)
  pub begun_then : ShowsLater shows 0 moment
  pub timed : AreTimed shows moment acts
  pub now_then : (now ≡ last_fed moment acts) ⊎ ShowsLater shows (last_fed moment acts) now
  pub late : tick_at (run (begun moment) acts).session.conversation.received (run (begun moment) acts).session.conversation.said now ≡ TimedOut

abbrev pub TimesOut : (ℕ → ℕ → Type 0) → Option (List ℕ) → Option (List ℕ) → ReaderStop → Type 0
TimesOut shows given left stop.TimedOut = HasTimedOut shows given left
TimesOut shows given left _ = ⊤
