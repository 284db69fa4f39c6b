-- What an indexer puts (Block Exchange Protocol v1, "Index" and "Index Update").
use Rattle.std.specs.Prelude.{◌≡◌, ◌⊎◌, ℕ, Bool, true, false, List, [], ◌∷◌, ◌++◌, map, Option, Some, None}
use Rattle.bep_frames.specs.declared.frame.Message.{Message}
use Rattle.bep_frames.specs.declared.frame.Message.TheVariants as message
use Rattle.sync_record.specs.Infos.{info_of}
use Rattle.folder_calls.specs.Shared.{CallerView, IsLegalView, Sees, now}
use Rattle.index_sender.specs.Pages.{GivesKept, Progress}
use Rattle.index_sender.specs.declared.page.Page.{Page}
use Rattle.index_sender.specs.declared.page.Page.TheVariants as page
use Rattle.peer_conn.specs.declared.indexer.IndexerFolder.{IndexerFolder}
use Rattle.peer_conn.specs.declared.turn.Turn.{Turn}
use Rattle.peer_conn.specs.declared.turn.Turn.TheVariants.{Put, Nothing, Waiting, Ended}
use Rattle.peer_conn.specs.declared.turn.TurnEnd.TheVariants.{OutOfMemory, Gone}

-- a page as a message of this folder
abbrev pub message_of : List ℕ → Page → Option Message
message_of folder (page.Index rs) = Some (message.Index (record { folder = folder; files = map info_of rs }))
message_of folder (page.IndexUpdate rs) = Some (message.IndexUpdate (record { folder = folder; files = map info_of rs }))
message_of folder page.Nothing = None

-- The sender went on by one page of what is kept, which are the records up to this sequence, of what the caller saw; whether others wait to be kept, and
-- the page's message.
abbrev pub GivesMessage : List ℕ → ℕ → CallerView → Progress → Progress → Bool → Option Message → Type 0
GivesMessage folder kept v old new is_waiting told =
    (given : Page) × IsLegalView v × GivesKept kept (now v) old given is_waiting new × (told ≡ message_of folder given)

-- the sender is as it was, or went on by one page
abbrev pub MayGiveMessage : List ℕ → ℕ → CallerView → Progress → Progress → Type 0
MayGiveMessage folder kept v old new = (new ≡ old) ⊎ ((is_waiting : Bool) × (told : Option Message) × GivesMessage folder kept v old new is_waiting told)

-- a turn: the page's message was put, or there was none to put, or nothing was put
abbrev pub Turns : List ℕ → ℕ → CallerView → Progress → Progress → List Message → List Message → Turn → Type 0
Turns folder kept v old new before after Put = (is_waiting : Bool) × (m : Message) × GivesMessage folder kept v old new is_waiting (Some m) × (after ≡ before ++ m ∷ [])
Turns folder kept v old new before after Nothing = GivesMessage folder kept v old new false None × (after ≡ before)
Turns folder kept v old new before after Waiting = GivesMessage folder kept v old new true None × (after ≡ before)
Turns folder kept v old new before after (Ended Gone) = (is_waiting : Bool) × (m : Message) × GivesMessage folder kept v old new is_waiting (Some m) × (after ≡ before)
Turns folder kept v old new before after (Ended OutOfMemory) = MayGiveMessage folder kept v old new × (after ≡ before)

module _ {W F : Type 0} (folder : W → F) (view : W → CallerView) where
  -- It is the same folder: its history went on without an entry of this caller.
  pub record OnlySees (old new : IndexerFolder W) : Type 0 where
    pub id : new.id ≡ old.id
    pub index_id : new.index_id ≡ old.index_id
    pub folder_is : folder new.calls ≡ folder old.calls
    pub sees : Sees (view old.calls) (view new.calls)
