-- What the server of a connection puts: just the answers to requests, one after the other (own rule).
use Rattle.std.specs.Prelude.{◌≡◌, ℕ, Bool, List, [], ◌∷◌, ◌++◌, map, Option, Some, None, Result}
use Rattle.bep_messages.specs.declared.request.Request.{Request}
use Rattle.bep_frames.specs.declared.frame.Message.{Message}
use Rattle.bep_frames.specs.declared.frame.Message.TheVariants as message
use Rattle.bep_messages.specs.declared.response.Response.{Response}
use Rattle.folder_core.specs.States.{local}
use Rattle.folder_calls.specs.Shared.{CallerView, Sees, now}
use Rattle.file_store.specs.Asked.{Call, Value}
use Rattle.file_store.specs.Trees.{Tree, bytes_of}
use Rattle.file_store.specs.declared.refusal.StoreRefusal.{StoreRefusal}
use Rattle.block_server.specs.PartsGiven.{ServesGiven}
use Rattle.block_server.specs.Served.{Serves}
use Rattle.peer_conn.specs.Sources.{ComeEach}
use Rattle.peer_server.specs.Answered.{Answers, OneGoesOn, RunsOut}
use Rattle.peer_server.specs.declared.request.PeerRequest.{PeerRequest}
use Rattle.peer_server.specs.declared.request.ServerFolder.{ServerFolder}
use Rattle.peer_server.specs.declared.server.ServerEnd.{ServerEnd}
use Rattle.peer_server.specs.declared.server.ServerEnd.TheVariants.{Closed, Gone, OutOfMemory}

-- the request that was answered
abbrev pub asked_of : PeerRequest × Response → PeerRequest
asked_of x = x.0

-- the response as it is put
abbrev pub message_of : PeerRequest × Response → Message
message_of x = message.Response x.1

module _ {S W F : Type 0} (keeps : Bool) (tree : S → Tree) (folder : W → F) (view : W → CallerView) (faults : S → ℕ) (gives : S → (call : Call) → Result (Value call) StoreRefusal → S → Type 0) where
  -- the requests were answered one after the other
  abbrev pub AnswersEach : List (ServerFolder S W) → List (PeerRequest × Response) → List (ServerFolder S W) → Type 0
  AnswersEach old [] new = new ≡ old
  AnswersEach old (x ∷ xs) new = (middle : List (ServerFolder S W)) × Answers keeps tree folder view faults gives old x.0 x.1 middle × AnswersEach middle xs new

  module _ {Q : Type 0} (comes : Q → Option PeerRequest → Q → Type 0) where
    -- each of those that came was answered, in this order, and just these answers were put
    pub record HasServed (from to : Q) (old : List (ServerFolder S W)) (before after : List Message) (new : List (ServerFolder S W)) : Type 0 where
      pub served : List (PeerRequest × Response)
      pub came : ComeEach comes from (map asked_of served) to
      pub put : after ≡ before ++ map message_of served
      pub answered : AnswersEach old served new

  -- the request was answered, and its answer put
  pub record PutsAnswer (asked : PeerRequest) (old : List (ServerFolder S W)) (before after : List Message) (new : List (ServerFolder S W)) : Type 0 where
    pub response : Response
    pub answers : Answers keeps tree folder view faults gives old asked response new
    pub put : after ≡ before ++ message.Response response ∷ []

  -- the request is the last: its answer was not put, or memory ran out for it
  abbrev pub LeavesOff : PeerRequest → ServerEnd → List (ServerFolder S W) → List (ServerFolder S W) → Type 0
  LeavesOff asked Closed old new = ⊥
  LeavesOff asked Gone old new = (response : Response) × Answers keeps tree folder view faults gives old asked response new
  LeavesOff asked OutOfMemory old new = OneGoesOn (RunsOut keeps tree folder view faults asked.request) old asked new

  module _ {Q : Type 0} (comes : Q → Option PeerRequest → Q → Type 0) where
    -- what a server leaves, by its end: nothing, since no more will come, or the last request
    abbrev pub Leaves : Q → Q → ServerEnd → List (ServerFolder S W) → List (ServerFolder S W) → Type 0
    Leaves from to Closed old new = comes from None to × (new ≡ old)
    Leaves from to Gone old new = (asked : PeerRequest) × comes from (Some asked) to × LeavesOff asked Gone old new
    Leaves from to OutOfMemory old new = (asked : PeerRequest) × comes from (Some asked) to × LeavesOff asked OutOfMemory old new

    -- all that a server did
    pub record ServesPeer (from to : Q) (old : List (ServerFolder S W)) (before after : List Message) (end : ServerEnd) (new : List (ServerFolder S W)) : Type 0 where
      pub source : Q
      pub point : List (ServerFolder S W)
      pub has_served : HasServed comes from source old before after point
      pub leaves : Leaves source to end point new

  -- The response to a request of this folder, between what it was and what it came to: over the local record of the name at a point that
  -- its caller then knew, and over what its store then gave, which of a store that keeps what is written is what the file has.
  pub record IsAnswerOf (old new : ServerFolder S W) (q : Request) (response : Response) : Type 0 where
    pub point : CallerView
    pub saw : Sees (view old.calls) point
    pub goes_on : Sees point (view new.calls)
    pub before : S
    pub after : S
    pub given : ServesGiven gives q (local (now point) q.name) before response after
    pub serves : Serves keeps q (local (now point) q.name) (bytes_of ((tree old.store).names q.name)) (faults before) response (faults after)
