-- What a node begins with, by its configuration and its state, and what is left of it (own rule).
use Rattle.std.specs.Prelude.{◌≡◌, ⊤, ℕ, Bool, false, List, [], ◌∷◌, length, map}
use Rattle.folder_db.specs.declared.folder.IndexedFolder.{IndexedFolder}
use Rattle.node_config.specs.declared.config.Config.{Config}
use Rattle.node_config.specs.declared.config.FolderConfig.{FolderConfig}
use Rattle.node_config.specs.declared.config.PeerConfig.{PeerConfig}
use Rattle.node_resume.specs.declared.shares.Share as resume
use Rattle.node_resume.specs.Left.{folders_left}
use Rattle.node_resume.specs.Resumed.{Resumed, resumed_all}
use Rattle.node_resume.specs.Shares.{shares_of}
use Rattle.node_state.specs.declared.state.State.{State}
use Rattle.node_threads.specs.declared.folders.StartFolder.{StartFolder}
use Rattle.node_threads.specs.declared.peers.NodePeer.{NodePeer}
use Rattle.node_threads.specs.declared.peers.Share as node
use Rattle.node_threads.specs.Left.{AreLeft}
use Rattle.folder_look.specs.Rhythms.{looking_of}
use Rattle.bepd_run.specs.Addresses.{IsReadAs}
use Rattle.bepd_run.specs.declared.nodes.NextNode.{NextNode}

-- a folder is kept as its configuration says, with the index id and the records that were resumed, which are all on the disk; nobody looked at its files yet
abbrev pub IsFolder : FolderConfig → Resumed → StartFolder IndexedFolder → Type 0
IsFolder folder resumed start =
    (start.settings ≡ record {
      id = folder.id;
      path = folder.path;
      index_id = resumed.index_id;
      history_limit = folder.history_limit;
      max_conflicts = folder.max_conflicts;
      rescan = folder.rescan;
      looking = looking_of folder.look;
      trash_days = folder.trash_days;
    })
    × (start.core.folder ≡ resumed.folder) × (start.kept ≡ resumed.folder.last) × (start.is_unsettled ≡ false) × (start.is_doubted ≡ false)

-- one of the configuration's stands at the place of each of these, which belong together
abbrev pub AreEach : {A B C : Type 0} → (A → B → C → Type 0) → List A → List B → List C → Type 0
AreEach P [] [] zs = ⊤
AreEach P [] (y ∷ ys) zs = ⊥
AreEach P (x ∷ xs) [] zs = ⊥
AreEach P (x ∷ xs) (y ∷ ys) [] = ⊥
AreEach P (x ∷ xs) (y ∷ ys) (z ∷ zs) = P x y z × AreEach P xs ys zs

-- each of these is the configuration's folder at its place
abbrev pub AreFolders : List Resumed → List (StartFolder IndexedFolder) → List FolderConfig → Type 0
AreFolders resumed starts folders = AreEach (λ r s f. IsFolder f r s) resumed starts folders

-- a share, as a node takes it
abbrev pub told : resume.Share → node.Share
told share = record { folder = share.folder; kept_index_id = share.kept_index_id }

-- what is shared with each of these peers
abbrev pub are_shares : Config → State → List PeerConfig → List (List resume.Share)
are_shares config state peers = map (shares_of config state) peers

-- a peer is the configuration's, dialled or listened for as that says, with these shares
abbrev pub IsPeer : PeerConfig → List resume.Share → NodePeer → Type 0
IsPeer peer shares start = (start.device ≡ peer.device) × IsReadAs peer.address start.address × (start.shares.items ≡ map told shares)

-- each of these is the configuration's peer at its place
abbrev pub ArePeers : List (List resume.Share) → List NodePeer → List PeerConfig → Type 0
ArePeers shares starts peers = AreEach (λ s n p. IsPeer p s n) shares starts peers

-- a node of this configuration: it has all its folders
abbrev pub IsOf : Config → NextNode → Type 0
IsOf config node = (length node.folders.items ≡ length config.folders) × (length node.index_ids.items ≡ length config.folders)

-- what a node begins with: what a run has of the state when it begins
abbrev pub IsStart : Config → State → ℕ → Bool → NextNode → Type 0
IsStart config state new_index_id is_left node =
    IsOf config node
    × AreFolders (resumed_all config state new_index_id is_left) node.folders.items config.folders
    × (node.index_ids.items ≡ map (λ f. f.settings.index_id) node.folders.items)
    × (map (λ s. s.items) node.shares.items ≡ are_shares config state config.peers)
    × ArePeers (are_shares config state config.peers) node.peers.items config.peers

-- What the node leaves: each folder once, with the index id that it had, the records to which a legal history led from those that it began with, and
-- numbers of its peers' indexes.
abbrev pub IsLeft : Config → NextNode → State → Type 0
IsLeft config node state =
    (cores : List IndexedFolder) × (kept : List (List ℕ)) × AreLeft (λ c. c.folder) node.folders.items cores
    × (state.folders ≡ folders_left config node.index_ids.items (map (λ s. s.items) node.shares.items) (map (λ c. c.folder) cores) kept)
