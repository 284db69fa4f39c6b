-- The configuration of a document, and of a text.
use Rattle.std.specs.Prelude.{◌≡◌, ℕ, suc, ◌≤◌, ◌==◌, List, length, take, count_by, ⊤, Some, Result, Ok, Err, IsUtf8}
use Rattle.toml.specs.Data.{Members}
use Rattle.toml.specs.Parse.{parse_document}
use Rattle.node_config.specs.Folders.{folders_at}
use Rattle.node_config.specs.Paths.{optional_path_at, path_at}
use Rattle.node_config.specs.Peers.{peers_at}
use Rattle.node_config.specs.Values.{◌>>=◌, device_at, text_at}
use Rattle.node_config.specs.declared.config.Config.{Config}
use Rattle.node_config.specs.declared.fault.ConfigFault.{ConfigFault}
use Rattle.node_config.specs.declared.fault.ConfigFault.TheVariants.{NotToml, BadKey, OutOfMemory}
use Rattle.node_config.specs.declared.key.Key.TheVariants.{Name, State, Status}
use Rattle.node_config.specs.declared.key.TablePlace.TheVariants.{Node}

-- the configuration of a document, or the first key at which it has none
abbrev pub config_of : Members → Result Config ConfigFault
config_of document = do
  device ← device_at document Node
  name ← text_at document Node Name
  state ← path_at document Node State
  status ← optional_path_at document Node Status
  folders ← folders_at document
  peers ← peers_at device folders document
  Ok (record { device = device; name = name; state = state; status = status; folders = folders; peers = peers })

-- the text is this document in TOML
abbrev pub IsDocument : List ℕ → Members → Type 0
IsDocument text document = IsUtf8 text × (parse_document text ≡ Some document)

-- the text is a document with this configuration
abbrev pub IsConfig : List ℕ → Config → Type 0
IsConfig text config = (document : Members) × IsDocument text document × (config_of document ≡ Ok config)

-- the line on which the byte at an index is, counted from 1
abbrev pub line_at : List ℕ → ℕ → ℕ
line_at text index = suc (count_by (λ byte. byte == 10) (take index text))

-- the line of a byte of the text, or of its end
abbrev pub IsLineOf : List ℕ → ℕ → Type 0
IsLineOf text line = (index : ℕ) × (index ≤ length text) × (line ≡ line_at text index)

-- why the text is no document, or that there was no memory
abbrev pub IsTomlFault : List ℕ → ConfigFault → Type 0
IsTomlFault text (NotToml line) = ((document : Members) → ¬ (IsDocument text document)) × IsLineOf text line
IsTomlFault text (BadKey place key problem) = ⊥
IsTomlFault text OutOfMemory = ⊤

-- the fault is there
abbrev pub IsFaultOf : List ℕ → ConfigFault → Type 0
IsFaultOf text (NotToml line) = ((document : Members) → ¬ (IsDocument text document)) × IsLineOf text line
IsFaultOf text (BadKey place key problem) = (document : Members) × IsDocument text document × (config_of document ≡ Err (BadKey place key problem))
IsFaultOf text OutOfMemory = ⊤
