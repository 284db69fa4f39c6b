-- The fields of the messages of a state file in the order of their tables, and the message that has these.
use Rattle.std.specs.Prelude.{◌≡◌, refl}
use Rattle.bep_messages.specs.Structs.{file_info_parts, file_info}
use Rattle.bep_messages.specs.Tables.{Values}
use Rattle.bep_messages.specs.Wholes.{file_info_whole}
use Rattle.node_state.specs.declared.entry.Entry.{Entry}
use Rattle.node_state.specs.declared.peer.Peer.{Peer}
use Rattle.node_state.specs.Tables.{entry_table, peer_table}

abbrev pub entry_parts : Entry → Values entry_table
entry_parts e = (e.device, (file_info_parts e.file, tt))

abbrev pub entry_of : Values entry_table → Entry
entry_of (device, (file, none)) = record { device = device; file = file_info file }

pub entry_whole : (e : Entry) → entry_of (entry_parts e) ≡ e
entry_whole e = rw (file_info_whole e.file) refl

abbrev pub peer_parts : Peer → Values peer_table
peer_parts p = (p.device, (p.index_id, tt))

abbrev pub peer_of : Values peer_table → Peer
peer_of (device, (index_id, none)) = record { device = device; index_id = index_id }

pub peer_whole : (p : Peer) → peer_of (peer_parts p) ≡ p
peer_whole p = refl
