-- A folder that is shared with a peer, as the workers of a connection have it (own rule).
use Rattle.std.specs.Prelude.{◌≡◌, false, ℕ, List, Some, map, slice_get}
use Rattle.node_folder.specs.declared.folder.NodeFolder.{NodeFolder}
use Rattle.peer_reader.specs.declared.folder.ReaderFolder.{ReaderFolder}
use Rattle.node_threads.specs.declared.peers.Share.{Share}
use Rattle.node_threads.specs.declared.workers.SharedWith.{SharedWith}

-- It is the folder at the share's place: known to the peer by its id, served from its files, and told with its own index id, while what comes of the
-- peer's is read on from the index of which there are records, and the peer has told nothing of it yet.
module _ {S : Type 0} (is_at : ℕ → S → Type 0) where
  abbrev pub IsShared : {W : Type 0} → List NodeFolder → Share → SharedWith S W → Type 0
  IsShared folders share s =
      (folder : NodeFolder) × (slice_get folders share.folder ≡ Some folder)
      × (s.read.id ≡ folder.settings.id) × (s.read.kept_index_id ≡ share.kept_index_id) × (s.read.is_told ≡ false)
      × is_at share.folder s.served.store
      × (s.indexed.id ≡ folder.settings.id) × (s.indexed.index_id ≡ folder.settings.index_id)

-- the numbers of a peer's indexes of which there are records, by the folders that its reader has
abbrev pub kept_numbers : {W : Type 0} → List (ReaderFolder W) → List ℕ
kept_numbers read = map (λ f. f.kept_index_id) read
