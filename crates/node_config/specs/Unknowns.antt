-- The keys of a document that are no keys of their tables.
use Rattle.std.specs.Prelude.{◌≡◌, ℕ, ◌+◌, ◌++◌, Bool, List, [], ◌∷◌, length, bytes_eq, nat_eq, ◌==◌, codes, if◌then◌else◌, Option, Some, None}
use Rattle.std.specs.List.{list_any}
use Rattle.std.specs.Str.{chars}
use Rattle.strsim.specs.Edits.{levenshtein_row}
use Rattle.toml.specs.Data.{Data, Items, no_items, item, Members, no_members, member, get_member, as_array, as_table}
use Rattle.node_config.specs.Documents.{IsDocument}
use Rattle.node_config.specs.Keys.{key_name, keys_of}
use Rattle.node_config.specs.declared.key.Key.{Key}
use Rattle.node_config.specs.declared.key.Key.TheVariants as key
use Rattle.node_config.specs.declared.key.TablePlace.{TablePlace}
use Rattle.node_config.specs.declared.key.TablePlace.TheVariants.{Node, Folder, Peer}
use Rattle.node_config.specs.declared.unknown.Tables.{Tables}
use Rattle.node_config.specs.declared.unknown.Tables.TheVariants.{Folders, Peers}
use Rattle.node_config.specs.declared.unknown.UnknownKey.{UnknownKey}

-- how many edits lead from a text to a key: characters that are put in, left out or changed (the Levenshtein distance)
abbrev pub edits_to : List ℕ → Key → ℕ
edits_to text key = levenshtein_row nat_eq (chars text) (chars (key_name key)) (length (chars (key_name key)))

-- the first of the keys to which just so many lead
abbrev pub first_at : ℕ → List ℕ → List Key → Option Key
first_at edits text [] = None
first_at edits text (key ∷ keys) = if edits_to text key == edits then Some key else first_at edits text keys

abbrev pub or_else : Option Key → Option Key → Option Key
or_else (Some key) other = Some key
or_else None other = other

-- the key of the table that is nearest to a text: the first to which one edit leads, and where there is none, the first to which two do
abbrev pub near_key : TablePlace → List ℕ → Option Key
near_key place text = or_else (first_at 1 text (keys_of place)) (first_at 2 text (keys_of place))

-- the text is a key of the table
abbrev pub is_key : TablePlace → List ℕ → Bool
is_key place text = list_any (λ key. bytes_eq (key_name key) text) (keys_of place)

abbrev pub unknown_key : TablePlace → List ℕ → UnknownKey
unknown_key place text = record { place = place; key = text; near = near_key place text }

-- those of a table, in its order
abbrev pub unknown_in : TablePlace → Members → List UnknownKey
unknown_in place no_members = []
unknown_in place (member text value members) =
    if is_key place text then unknown_in place members else unknown_key place text ∷ unknown_in place members

-- those of a value that may be no table
abbrev pub unknown_in_value : TablePlace → Option Members → List UnknownKey
unknown_in_value place None = []
unknown_in_value place (Some members) = unknown_in place members

-- the key of an array of tables, and the place of one of them
abbrev pub key_of : Tables → Key
key_of Folders = key.Folder
key_of Peers = key.Peer

abbrev pub place_of : Tables → ℕ → TablePlace
place_of Folders number = Folder number
place_of Peers number = Peer number

-- those of the tables from this number on
abbrev pub unknown_in_each : Tables → ℕ → Items → List UnknownKey
unknown_in_each tables number no_items = []
unknown_in_each tables number (item value values) =
    unknown_in_value (place_of tables number) (as_table value) ++ unknown_in_each tables (number + 1) values

-- those of an array that may be absent
abbrev pub unknown_in_array : Tables → Option Items → List UnknownKey
unknown_in_array tables None = []
unknown_in_array tables (Some values) = unknown_in_each tables 1 values

-- those of all tables of an array of the document, where the document has it
abbrev pub unknown_in_tables : Tables → Option Data → List UnknownKey
unknown_in_tables tables None = []
unknown_in_tables tables (Some value) = unknown_in_array tables (as_array value)

-- those of the document, then those of each folder and of each peer
abbrev pub unknown_keys : Members → List UnknownKey
unknown_keys document =
    unknown_in Node document
    ++ (unknown_in_tables Folders (get_member (key_name (key_of Folders)) document) ++ unknown_in_tables Peers (get_member (key_name (key_of Peers)) document))

-- those of the document that a text is
abbrev pub AreUnknownIn : List ℕ → List UnknownKey → Type 0
AreUnknownIn text keys = (document : Members) × IsDocument text document × (keys ≡ unknown_keys document)
