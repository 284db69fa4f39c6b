-- What holds of each configuration.
use Rattle.std.specs.Prelude.{◌≡◌, ◌≢◌, ℕ, ◌<◌, List, [], length, All, AllPairs, IfSome}
use Rattle.std.specs.declared.net.socket_addr.SocketAddrV4.{SocketAddrV4}
use Rattle.sync_record.specs.Devices.{short_id}
use Rattle.node_config.specs.Addresses.{IsAddressText}
use Rattle.node_config.specs.FolderNumbers.{IsIn, number_in, range_of}
use Rattle.node_config.specs.Modes.{IsMode}
use Rattle.node_config.specs.declared.config.Config.{Config}
use Rattle.node_config.specs.declared.config.FolderConfig.{FolderConfig}
use Rattle.node_config.specs.declared.config.PeerConfig.{PeerConfig}
use Rattle.node_config.specs.declared.config.PeerAddress.TheVariants.{Listen}
use Rattle.node_config.specs.declared.folder_numbers.FolderNumber.{FolderNumber}

-- an id and a path that are not empty, numbers in their ranges, and a mode in its own
pub record IsFolder (folder : FolderConfig) : Type 0 where
  pub id : folder.id ≢ []
  pub path : folder.path ≢ []
  pub numbers : (number : FolderNumber) → IsIn (range_of number) (number_in number folder)
  pub mode : IfSome folder.mode IsMode

-- folders of different ids
abbrev pub AreFolders : List FolderConfig → Type 0
AreFolders folders = All IsFolder folders × AllPairs (λ a b. a.id ≢ b.id) folders

-- the peer is listened for at this address
abbrev pub IsListenedAt : SocketAddrV4 → PeerConfig → Type 0
IsListenedAt address peer = (text : List ℕ) × (peer.address ≡ Listen text) × IsAddressText text address

-- peers of places below this number, whose identities differ in their first eight bytes from this one and from each other, and no two
-- of which are listened for at one address, or by one text
pub record ArePeers (me : List ℕ) (number : ℕ) (peers : List PeerConfig) : Type 0 where
  pub places : All (λ peer. All (λ place. place < number) peer.folders) peers
  pub own_id : All (λ peer. short_id peer.device ≢ short_id me) peers
  pub short_ids : AllPairs (λ a b. short_id a.device ≢ short_id b.device) peers
  pub listens : AllPairs (λ a b. (address : SocketAddrV4) → IsListenedAt address a → IsListenedAt address b → ⊥) peers
  pub listen_texts : AllPairs (λ a b. (text : List ℕ) → a.address ≡ Listen text → b.address ≢ Listen text) peers

abbrev pub IsConsistent : Config → Type 0
IsConsistent config = AreFolders config.folders × ArePeers config.device (length config.folders) config.peers
