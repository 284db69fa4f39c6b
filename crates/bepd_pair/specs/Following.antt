-- What each command does to the two peers, and what it prints (own rule). Out of memory, a command may be done in part.
use Rattle.std.specs.Prelude.{◌≡◌, ⊤, ℕ, List, [], ◌++◌, flat_map, Option, Some, None, Result, Ok, Err}
use Rattle.file_store.specs.Calls.{removed}
use Rattle.file_store.specs.Names.{Name as AnyName}
use Rattle.file_store.specs.Stores.{mem_tree}
use Rattle.file_store.specs.Trees.{Tree}
use Rattle.sync_record.specs.Records.{FileRecord}
use Rattle.sync_scan.specs.declared.sum.ScanSum.{ScanSum}
use Rattle.bepd_pair.specs.declared.command.Action.{Action}
use Rattle.bepd_pair.specs.declared.command.Action.TheVariants as action
use Rattle.bepd_pair.specs.declared.command.Command.{Command}
use Rattle.bepd_pair.specs.declared.command.Command.TheVariants.{Time, Sync, At}
use Rattle.bepd_pair.specs.declared.command.Side.{Side}
use Rattle.bepd_pair.specs.declared.command.Side.TheVariants.{A, B}
use Rattle.bepd_pair.specs.declared.peer.Peer.{Peer}
use Rattle.bepd_pair.specs.declared.peers.Peers.{Peers}
use Rattle.bepd_pair.specs.declared.refused.Refused.{Refused}
use Rattle.bepd_pair.specs.declared.refused.Refused.TheVariants.{UnknownCommand, OutOfMemory}
use Rattle.bepd_pair.specs.Commands.{IsLineOf}
use Rattle.bepd_pair.specs.Files.{CannotBeRemoved, ChangesFiles, IsNoPlaceForDirectory, IsNoPlaceForFile, directory_put, file_put}
use Rattle.bepd_pair.specs.Input.{kept_line}
use Rattle.bepd_pair.specs.Lines.{local_line, refused_line, sync_line}
use Rattle.bepd_pair.specs.Pulls.{PullsUnlessFull}
use Rattle.bepd_pair.specs.Scans.{ScansPeer, TellsSum}
use Rattle.bepd_pair.specs.Words.{Text}

-- the peer's files change under a name, and nothing else of it
pub record ChangesPeer (n : AnyName) (unfit : Tree → Type 0) (done : Tree → Tree) (old : Peer) (result : Result (Unit {0}) Refused) (new : Peer) : Type 0 where
  pub files : ChangesFiles n (unfit (mem_tree old.store)) (mem_tree old.store) (done (mem_tree old.store)) result (mem_tree new.store)
  pub others : new ≡ record old { store = new.store }

-- lines were printed, unless memory ran out
abbrev pub PrintsUnlessFull : Result (Unit {0}) Refused → Type 0 → Type 0
PrintsUnlessFull (Ok _) printed = printed
PrintsUnlessFull (Err OutOfMemory) printed = ⊤
PrintsUnlessFull (Err _) printed = ⊥

-- the lines of these records were printed
abbrev pub ShowsRecords : Side → List ℕ → List ℕ → Type 0
ShowsRecords side before after = (records : List FileRecord) × (after ≡ before ++ flat_map (local_line side) records)

-- What a peer does, by what it is to do. Of `show` it is said here only that its lines are those of records.
abbrev pub Acts : ℕ → Action → Peer → Result (Unit {0}) Refused → List ℕ → List ℕ → Peer → Type 0
Acts moment (action.Put name text) old result before after new =
    ChangesPeer name.now (λ t. IsNoPlaceForFile t name.now) (λ t. file_put t name.now text.now moment) old result new × (after ≡ before)
Acts moment (action.MakeDir name) old result before after new =
    ChangesPeer name.now (λ t. IsNoPlaceForDirectory t name.now) (λ t. directory_put t name.now) old result new × (after ≡ before)
Acts moment (action.Delete name) old result before after new =
    ChangesPeer name.now (λ t. CannotBeRemoved t name.now) (λ t. removed t name.now) old result new × (after ≡ before)
Acts moment (action.Conflicts most) old result before after new =
    (result ≡ Ok tt) × (new ≡ record old { most = most }) × (after ≡ before)
Acts moment action.Scan old result before after new =
    (sum : ScanSum) × ScansPeer old moment sum new × TellsSum old.side sum before result after
Acts moment action.Pull old result before after new =
    PullsUnlessFull moment old result before after new
Acts moment action.Show old result before after new =
    (new ≡ record old { calls = new.calls })
    × PrintsUnlessFull result (ShowsRecords old.side before after)

-- only a pull involves the other peer and the connection
abbrev pub UnlessPull : Action → Type 0 → Type 0
UnlessPull action.Pull alone = ⊤
UnlessPull _ alone = alone

abbrev pub peer_of : Side → Peers → Peer
peer_of A peers = peers.a
peer_of B peers = peers.b

abbrev pub with_peer : Side → Peer → Peers → Peers
with_peer A peer peers = record peers { a = peer }
with_peer B peer peers = record peers { b = peer }

-- What a command does. Of `sync` it is said here only that its line has two counts, or that it prints nothing of its own.
abbrev pub Follows : Command → Peers → Result (Unit {0}) Refused → List ℕ → List ℕ → Peers → Type 0
Follows (Time moment) old result before after new =
    (result ≡ Ok tt) × (new ≡ record old { moment = moment }) × (after ≡ before)
Follows Sync old (Ok _) before after new =
    (new.moment ≡ old.moment) × ((to_b : ℕ) × (to_a : ℕ) × (after ≡ before ++ sync_line to_b to_a))
Follows Sync old (Err OutOfMemory) before after new = ⊤
Follows Sync old (Err refused) before after new = (new.moment ≡ old.moment) × (after ≡ before)
Follows (At side action) old result before after new =
    (new.moment ≡ old.moment)
    × Acts old.moment action (peer_of side old) result before after (peer_of side new)
    × UnlessPull action (new ≡ with_peer side (peer_of side new) old)

-- what is printed of the result itself
abbrev pub told : Result (Unit {0}) Refused → List ℕ
told (Ok _) = []
told (Err refused) = refused_line refused

-- The line is a command, which was followed; or it is none or too long, and changes nothing.
pub data FollowsText (text : Option Text) (old : Peers) (printed : List ℕ) (new : Peers) : Type 0 where
  follows : (line : Text) (command : Command) (result : Result (Unit {0}) Refused) (lines : List ℕ) → text ≡ Some line → IsLineOf line command
      → Follows command old result [] lines new → (result ≡ Err OutOfMemory → ⊥) → printed ≡ lines ++ told result → FollowsText text old printed new
  none : (line : Text) → text ≡ Some line → ((command : Command) → IsLineOf line command → ⊥) → printed ≡ refused_line UnknownCommand → new ≡ old
      → FollowsText text old printed new
  too_long : text ≡ None → printed ≡ refused_line UnknownCommand → new ≡ old → FollowsText text old printed new

abbrev pub FollowsLine : Text → Peers → List ℕ → Peers → Type 0
FollowsLine line old printed new = FollowsText (kept_line line) old printed new
