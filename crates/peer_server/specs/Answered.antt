-- What a request of a peer is answered (Block Exchange Protocol v1, "Request" and "Response"; what a folder that is not shared is
-- answered is own rule).
use Rattle.std.specs.Prelude.{◌≡◌, ◌⊎◌, ℕ, ◌≤◌, Bool, true, false, List, ◌∷◌, ◌++◌, length, Some, None, Result}
use Rattle.bep_messages.specs.declared.request.Request.{Request}
use Rattle.bep_messages.specs.declared.response.Response.{Response}
use Rattle.sync_names.specs.Refusal.{shape_refusal}
use Rattle.folder_core.specs.States.{local}
use Rattle.folder_calls.specs.Shared.{CallerView, Sees, now}
use Rattle.file_store.specs.Asked.{Call, Value}
use Rattle.file_store.specs.Trees.{Tree, bytes_of}
use Rattle.file_store.specs.declared.refusal.StoreRefusal.{StoreRefusal}
use Rattle.block_server.specs.PartsGiven.{ServesGiven}
use Rattle.block_server.specs.Served.{Serves, answers_code}
use Rattle.block_server.specs.declared.code.Code.TheVariants.{NoSuchFile}
use Rattle.peer_server.specs.declared.request.PeerRequest.{PeerRequest}
use Rattle.peer_server.specs.declared.request.ServerFolder.{ServerFolder}

module _ {S W : Type 0} where
  -- Only the folder at the place that is asked for goes on, as `goes` says; the others stay as they are.
  pub record OneGoesOn (goes : ServerFolder S W → ServerFolder S W → Type 0) (old : List (ServerFolder S W)) (asked : PeerRequest) (new : List (ServerFolder S W)) : Type 0 where
    pub front : List (ServerFolder S W)
    pub before : ServerFolder S W
    pub after : ServerFolder S W
    pub back : List (ServerFolder S W)
    pub old_is : old ≡ front ++ before ∷ back
    pub new_is : new ≡ front ++ after ∷ back
    pub place : asked.folder ≡ Some (length front)
    pub goes_on : goes before after

  -- No folder is at the place that is asked for: code 2, and no folder is asked.
  pub record Refuses (old : List (ServerFolder S W)) (asked : PeerRequest) (response : Response) (new : List (ServerFolder S W)) : Type 0 where
    pub none : (place : ℕ) → asked.folder ≡ Some place → length old ≤ place
    pub answer_is : response ≡ answers_code asked.request NoSuchFile
    pub same : new ≡ old

  module _ {F : Type 0} (keeps : Bool) (tree : S → Tree) (folder : W → F) (view : W → CallerView) where
    -- It is the same folder: its history went on without an entry of this caller, and a store that keeps what is written has what it had.
    pub record Stays (old new : ServerFolder S W) : Type 0 where
      pub folder_is : folder new.calls ≡ folder old.calls
      pub sees : Sees (view old.calls) (view new.calls)
      pub kept : keeps ≡ true → tree new.store ≡ tree old.store

    module _ (faults : S → ℕ) where
      -- Memory ran out: the request is of no temporary file, and its name has the shape of a safe one.
      pub record RunsOut (q : Request) (old new : ServerFolder S W) : Type 0 where
        pub stays : Stays old new
        pub faults_are : faults new.store ≡ faults old.store
        pub tried : (q.from_temporary ≡ false) × (shape_refusal q.name ≡ None)

      module _ (gives : S → (call : Call) → Result (Value call) StoreRefusal → S → Type 0) where
        -- The folder answers: over the local record of the name at the point that the caller then knows, and over what its store gives.
        pub record Responds (q : Request) (response : Response) (old new : ServerFolder S W) : Type 0 where
          pub stays : Stays old new
          pub given : ServesGiven gives q (local (now (view new.calls)) q.name) old.store response new.store
          pub serves : Serves keeps q (local (now (view new.calls)) q.name) (bytes_of ((tree old.store).names q.name)) (faults old.store) response (faults new.store)

        -- the response to a request, by its folder or by none
        abbrev pub Answers : List (ServerFolder S W) → PeerRequest → Response → List (ServerFolder S W) → Type 0
        Answers old asked response new = OneGoesOn (Responds asked.request response) old asked new ⊎ Refuses old asked response new
