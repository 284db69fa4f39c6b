-- What a document has in place of a configuration is a fault of a key.
use Rattle.std.proofs.Common.{ℕ, ◌+◌, Bool, true, false, cond, List, [], ◌∷◌, ◌++◌, length, Option, Some, None, Result, Ok, Err, IfErr}
use Rattle.std.specs.Bool.{⊤}
use Rattle.std.specs.Option.{ok_or}
use Rattle.toml.specs.Data.{Data, Items, no_items, item, Members, get_member, as_array, as_str}
use Rattle.node_config.specs.Keys.{key_name}
use Rattle.node_config.specs.Modes.{mode_at, mode_of_text, mode_or_none}
use Rattle.node_config.specs.Paths.{checked_path, optional_path_at, path_at, path_if_there}
use Rattle.device_text.specs.declared.fault.DeviceFault.{DeviceFault}
use Rattle.node_config.specs.Values.{◌>>=◌, text_at, number_or_default, number_at, device_at, or_no_device, tables_of}
use Rattle.node_config.specs.Folders.{checked_id, files_of, folder_of, folders_after, folders_at, id_at, numbers_of}
use Rattle.node_config.specs.Peers.{checked_device, place_of, places_after, places_at, address_of, address_at, peer_of, peers_after, peers_at}
use Rattle.node_config.specs.Documents.{config_of}
use Rattle.node_config.specs.declared.config.FolderConfig.{FolderConfig}
use Rattle.node_config.specs.declared.config.PeerConfig.{PeerConfig}
use Rattle.node_config.specs.declared.fault.ConfigFault.{ConfigFault}
use Rattle.node_config.specs.declared.fault.ConfigFault.TheVariants.{NotToml, BadKey, OutOfMemory}
use Rattle.node_config.specs.declared.folder_numbers.FolderNumber.{FolderNumber}
use Rattle.node_config.specs.declared.key.Key.{Key}
use Rattle.node_config.specs.declared.key.Key.TheVariants.{Dial as DialKey, Listen as ListenKey, Mode}
use Rattle.node_config.specs.declared.key.TablePlace.{TablePlace}
use Rattle.node_config.specs.declared.key.Problem.{Problem}
use Rattle.node_config.specs.declared.key.Problem.TheVariants.{NotMode}

-- the fault is of a key
abbrev pub IsOfKey : ConfigFault → Type 0
IsOfKey (NotToml line) = ⊥
IsOfKey (BadKey place key problem) = ⊤
IsOfKey OutOfMemory = ⊥

abbrev pub FailsAtKey : {A : Type 0} → Result A ConfigFault → Type 0
FailsAtKey r = IfErr r IsOfKey

or_fails : {A : Type 0} (o : Option A) (place : TablePlace) (key : Key) (problem : Problem) → FailsAtKey (ok_or o (BadKey place key problem))
or_fails None place key problem = tt
or_fails (Some x) place key problem = tt

then_fails : {A B : Type 0} (r : Result A ConfigFault) (f : A → Result B ConfigFault) → FailsAtKey r → ((x : A) → FailsAtKey (f x)) → FailsAtKey (r >>= f)
then_fails (Ok x) f h g = g x
then_fails (Err e) f h g = h

cond_fails : {A : Type 0} (b : Bool) (x y : Result A ConfigFault) → FailsAtKey x → FailsAtKey y → FailsAtKey (cond b x y)
cond_fails true x y h g = h
cond_fails false x y h g = g

text_fails : (table : Members) (place : TablePlace) (key : Key) → FailsAtKey (text_at table place key)
text_fails table place key = search (or_fails, then_fails)

default_fails : (place : TablePlace) (number : FolderNumber) (o : Option Data) → FailsAtKey (number_or_default place number o)
default_fails place number None = tt
default_fails place number (Some value) = search (or_fails, then_fails, cond_fails)

checked_id_fails : (earlier : List FolderConfig) (place : TablePlace) (id : List ℕ) → FailsAtKey (checked_id earlier place id)
checked_id_fails earlier place id = search cond_fails

id_fails : (earlier : List FolderConfig) (table : Members) (place : TablePlace) → FailsAtKey (id_at earlier table place)
id_fails earlier table place = search (then_fails, text_fails, checked_id_fails)

path_fails : (table : Members) (place : TablePlace) (key : Key) → FailsAtKey (path_at table place key)
path_fails table place key = search (then_fails, text_fails, cond_fails)

path_if_there_fails : (place : TablePlace) (key : Key) (o : Option Data) → FailsAtKey (path_if_there place key o)
path_if_there_fails place key None = tt
path_if_there_fails place key (Some value) = search (or_fails, then_fails, cond_fails)

optional_path_fails : (table : Members) (place : TablePlace) (key : Key) → FailsAtKey (optional_path_at table place key)
optional_path_fails table place key = path_if_there_fails place key (get_member (key_name key) table)

mode_or_none_fails : (place : TablePlace) (o : Option Data) → FailsAtKey (mode_or_none place o)
mode_or_none_fails place None = tt
mode_or_none_fails place (Some value) = then_fails (ok_or (mode_of_text (as_str value)) (BadKey place Mode NotMode)) _ (or_fails _ place Mode NotMode) (λ mode. tt)

mode_fails : (table : Members) (place : TablePlace) → FailsAtKey (mode_at table place)
mode_fails table place = mode_or_none_fails place (get_member (key_name Mode) table)

number_fails : (table : Members) (place : TablePlace) (number : FolderNumber) → FailsAtKey (number_at table place number)
number_fails table place number = default_fails place number _

or_no_device_fails : (place : TablePlace) (r : Result (List ℕ) DeviceFault) → FailsAtKey (or_no_device place r)
or_no_device_fails place (Ok device) = tt
or_no_device_fails place (Err fault) = tt

pub device_fails : (table : Members) (place : TablePlace) → FailsAtKey (device_at table place)
device_fails table place = search (or_no_device_fails, then_fails, text_fails)

tables_fail : (key : Key) (o : Option Data) → FailsAtKey (tables_of key o)
tables_fail key None = tt
tables_fail key (Some value) = or_fails (as_array value) _ _ _

numbers_fail : (table : Members) (place : TablePlace) → FailsAtKey (numbers_of table place)
numbers_fail table place = search (then_fails, number_fails)

files_fail : (table : Members) (place : TablePlace) → FailsAtKey (files_of table place)
files_fail table place = search (then_fails, number_fails, mode_fails)

folder_fails : (earlier : List FolderConfig) (value : Data) → FailsAtKey (folder_of earlier value)
folder_fails earlier value = search (or_fails, then_fails, id_fails, path_fails, numbers_fail, files_fail) depth 12

folders_fail : (earlier : List FolderConfig) (values : Items) → FailsAtKey (folders_after earlier values)
folders_fail earlier no_items = tt
folders_fail earlier (item value values) = then_fails (folder_of earlier value) (λ folder. folders_after (earlier ++ folder ∷ []) values) (folder_fails earlier value) (λ folder. folders_fail (earlier ++ folder ∷ []) values)

checked_device_fails : (me : List ℕ) (earlier : List PeerConfig) (place : TablePlace) (device : List ℕ) → FailsAtKey (checked_device me earlier place device)
checked_device_fails me earlier place device = search cond_fails

place_fails : (folders : List FolderConfig) (place : TablePlace) (entry : ℕ) (value : Data) → FailsAtKey (place_of folders place entry value)
place_fails folders place entry value = search (or_fails, then_fails)

places_fail : (folders : List FolderConfig) (place : TablePlace) (earlier : List ℕ) (values : Items) → FailsAtKey (places_after folders place earlier values)
places_fail folders place earlier no_items = tt
places_fail folders place earlier (item value values) = then_fails (place_of folders place (length earlier + 1) value) (λ index. places_after folders place (earlier ++ index ∷ []) values) (place_fails folders place (length earlier + 1) value) (λ index. places_fail folders place (earlier ++ index ∷ []) values)

places_at_fails : (folders : List FolderConfig) (table : Members) (place : TablePlace) → FailsAtKey (places_at folders table place)
places_at_fails folders table place = search (or_fails, then_fails, places_fail)

address_fails : (earlier : List PeerConfig) (place : TablePlace) (dial listen : Option Data) → FailsAtKey (address_of earlier place dial listen)
address_fails earlier place None None = tt
address_fails earlier place (Some dial) None = search (or_fails, then_fails)
address_fails earlier place None (Some listen) = search (or_fails, then_fails, cond_fails)
address_fails earlier place (Some dial) (Some listen) = tt

address_at_fails : (earlier : List PeerConfig) (table : Members) (place : TablePlace) → FailsAtKey (address_at earlier table place)
address_at_fails earlier table place = address_fails earlier place (get_member (key_name DialKey) table) (get_member (key_name ListenKey) table)

peer_fails : (me : List ℕ) (folders : List FolderConfig) (earlier : List PeerConfig) (value : Data) → FailsAtKey (peer_of me folders earlier value)
peer_fails me folders earlier value = search (or_fails, then_fails, device_fails, checked_device_fails, places_at_fails, address_at_fails) depth 12

peers_fail : (me : List ℕ) (folders : List FolderConfig) (earlier : List PeerConfig) (values : Items) → FailsAtKey (peers_after me folders earlier values)
peers_fail me folders earlier no_items = tt
peers_fail me folders earlier (item value values) = then_fails (peer_of me folders earlier value) (λ peer. peers_after me folders (earlier ++ peer ∷ []) values) (peer_fails me folders earlier value) (λ peer. peers_fail me folders (earlier ++ peer ∷ []) values)

folders_at_fails : (document : Members) → FailsAtKey (folders_at document)
folders_at_fails document = search (then_fails, tables_fail, folders_fail)

peers_at_fails : (me : List ℕ) (folders : List FolderConfig) (document : Members) → FailsAtKey (peers_at me folders document)
peers_at_fails me folders document = search (then_fails, tables_fail, peers_fail)

-- a document that has no configuration has a key at which it has none
pub config_fails : (document : Members) → FailsAtKey (config_of document)
config_fails document = search (then_fails, device_fails, text_fails, path_fails, optional_path_fails, folders_at_fails, peers_at_fails) depth 12
