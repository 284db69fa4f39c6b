-- The peers of a document.
use Rattle.std.specs.Prelude.{ℕ, ◌+◌, Bool, false, List, [], ◌∷◌, ◌++◌, length, ◌||◌, bytes_eq, position, ◌==◌, if◌then◌else◌, Option, Some, None, Result, Ok, Err}
use Rattle.std.specs.List.{list_any}
use Rattle.std.specs.Option.{ok_or}
use Rattle.toml.specs.Data.{Data, Items, no_items, item, Members, get_member, as_str}
use Rattle.sync_record.specs.Devices.{short_id}
use Rattle.node_config.specs.Addresses.{socket_text}
use Rattle.node_config.specs.Folders.{has_id}
use Rattle.node_config.specs.Keys.{key_name}
use Rattle.node_config.specs.Values.{◌>>=◌, text_of, array_at, device_at, table_of, tables_of}
use Rattle.node_config.specs.declared.config.FolderConfig.{FolderConfig}
use Rattle.node_config.specs.declared.config.PeerConfig.{PeerConfig}
use Rattle.node_config.specs.declared.config.PeerAddress.{PeerAddress}
use Rattle.node_config.specs.declared.config.PeerAddress.TheVariants.{Dial, Listen}
use Rattle.node_config.specs.declared.fault.ConfigFault.{ConfigFault}
use Rattle.node_config.specs.declared.fault.ConfigFault.TheVariants.{BadKey}
use Rattle.node_config.specs.declared.key.Key.TheVariants.{Peer as PeerKey, Device, Folders, Dial as DialKey, Listen as ListenKey}
use Rattle.node_config.specs.declared.key.TablePlace.{TablePlace}
use Rattle.node_config.specs.declared.key.TablePlace.TheVariants.{Peer}
use Rattle.node_config.specs.declared.key.Problem.TheVariants.{NotStrings, Repeats, SameDevice, SameShortId, UnknownFolder, BothAddresses, NoAddress}

-- this device or one of the peers has this identity
abbrev pub is_taken : List ℕ → List PeerConfig → List ℕ → Bool
is_taken me peers device = bytes_eq me device || list_any (λ peer. bytes_eq peer.device device) peers

-- or an identity with these first eight bytes
abbrev pub is_short_id_taken : List ℕ → List PeerConfig → ℕ → Bool
is_short_id_taken me peers short = short_id me == short || list_any (λ peer. short_id peer.device == short) peers

-- an identity that differs from that of this device and of each earlier peer, also in its first eight bytes
abbrev pub checked_device : List ℕ → List PeerConfig → TablePlace → List ℕ → Result (List ℕ) ConfigFault
checked_device me earlier place device =
    if is_taken me earlier device then Err (BadKey place Device SameDevice)
    else if is_short_id_taken me earlier (short_id device) then Err (BadKey place Device SameShortId)
    else Ok device

-- the place of the folder with an id, which is the value of this number in its array
abbrev pub place_of : List FolderConfig → TablePlace → ℕ → Data → Result ℕ ConfigFault
place_of folders place entry value = do
  id ← ok_or (as_str value) (BadKey place Folders NotStrings)
  ok_or (position (has_id id) folders) (BadKey place Folders (UnknownFolder entry))

-- the earlier places, and those of the values
abbrev pub places_after : List FolderConfig → TablePlace → List ℕ → Items → Result (List ℕ) ConfigFault
places_after folders place earlier no_items = Ok earlier
places_after folders place earlier (item value values) =
    place_of folders place (length earlier + 1) value >>= λ index. places_after folders place (earlier ++ index ∷ []) values

abbrev pub places_at : List FolderConfig → Members → TablePlace → Result (List ℕ) ConfigFault
places_at folders table place = array_at table place Folders >>= places_after folders place []

-- the peer is listened for at the socket that this text means
abbrev pub listens_at : List ℕ → PeerAddress → Bool
listens_at text (Dial dialled) = false
listens_at text (Listen listened) = bytes_eq (socket_text listened) (socket_text text)

-- an address at whose socket no earlier peer is listened for
abbrev pub checked_listen : List PeerConfig → TablePlace → List ℕ → Result PeerAddress ConfigFault
checked_listen earlier place text =
    if list_any (λ peer. listens_at text peer.address) earlier then Err (BadKey place ListenKey Repeats)
    else Ok (Listen text)

-- the address of `dial`, or of `listen`: one of them is there
abbrev pub address_of : List PeerConfig → TablePlace → Option Data → Option Data → Result PeerAddress ConfigFault
address_of earlier place None None = Err (BadKey place DialKey NoAddress)
address_of earlier place (Some dial) None = text_of place DialKey dial >>= λ text. Ok (Dial text)
address_of earlier place None (Some listen) = text_of place ListenKey listen >>= checked_listen earlier place
address_of earlier place (Some dial) (Some listen) = Err (BadKey place DialKey BothAddresses)

abbrev pub address_at : List PeerConfig → Members → TablePlace → Result PeerAddress ConfigFault
address_at earlier table place = address_of earlier place (get_member (key_name DialKey) table) (get_member (key_name ListenKey) table)

-- the peer of a table, after the earlier ones
abbrev pub peer_of : List ℕ → List FolderConfig → List PeerConfig → Data → Result PeerConfig ConfigFault
peer_of me folders earlier value = do
  table ← table_of PeerKey value
  identity ← device_at table (Peer (length earlier + 1))
  device ← checked_device me earlier (Peer (length earlier + 1)) identity
  places ← places_at folders table (Peer (length earlier + 1))
  address ← address_at earlier table (Peer (length earlier + 1))
  Ok (record { device = device; folders = places; address = address })

-- the earlier peers, and those of the tables
abbrev pub peers_after : List ℕ → List FolderConfig → List PeerConfig → Items → Result (List PeerConfig) ConfigFault
peers_after me folders earlier no_items = Ok earlier
peers_after me folders earlier (item value values) =
    peer_of me folders earlier value >>= λ peer. peers_after me folders (earlier ++ peer ∷ []) values

abbrev pub peers_at : List ℕ → List FolderConfig → Members → Result (List PeerConfig) ConfigFault
peers_at me folders document = tables_of PeerKey (get_member (key_name PeerKey) document) >>= peers_after me folders []
