-- A message has fewer records than its frame has bytes.
use Rattle.std.proofs.Common.{◌≡◌, ℕ, zero, suc, ◌+◌, ◌<◌, ◌≤◌, ◌==◌, Bool, true, false, ℤ, pos, List, [], ◌∷◌, ◌++◌, map, length, Option, None, Some, Ok, ap, subst, if◌then◌else◌, arith}
use Rattle.std.specs.Prelude.{negsuc}
use Rattle.std.proofs.lemmas.List.{length-append, length-map}
use Rattle.bep_wire.specs.declared.fault.WireFault.{WireFault}
use Rattle.bep_wire.specs.Content.{Content, Number, Eight, Bytes, Four, Item}
use Rattle.bep_wire.specs.Grammar.{IsSpelling, Reads}
use Rattle.bep_wire.specs.Fields.{fields}
use Rattle.bep_wire.proofs.Lemmas.{reading_is_read}
use Rattle.bep_messages.specs.declared.fault.MessageFault.{MessageFault}
use Rattle.bep_messages.specs.declared.index.Index.{Index}
use Rattle.bep_messages.specs.declared.index_update.IndexUpdate.{IndexUpdate}
use Rattle.bep_messages.specs.declared.file_info.FileInfo.{FileInfo}
use Rattle.bep_messages.specs.Protocol.{file_info_table, cluster_config_table, index_table, index_update_table, request_table, response_table, download_progress_table, ping_table, close_table}
use Rattle.bep_messages.specs.Structs.{file_info, cluster_config, index, index_update, request, response, download_progress, ping, close}
use Rattle.bep_messages.specs.Contents.{contents, bytes_in, byte_lists}
use Rattle.bep_messages.specs.Faults.{message_fault, outcome}
use Rattle.bep_messages.specs.Values.{empty, values, value}
use Rattle.bep_frames.specs.declared.frame.Frame.{Frame}
use Rattle.bep_frames.specs.declared.frame.Frame.TheVariants.{Message as MessageFrame}
use Rattle.bep_frames.specs.declared.frame.Message.{Message}
use Rattle.bep_frames.specs.declared.frame.Message.TheVariants.{ClusterConfig, Index as IndexMessage, IndexUpdate as IndexUpdateMessage, Request, Response, DownloadProgress, Ping, Close}
use Rattle.bep_frames.specs.Carried.{IsMessage}
use Rattle.bep_frames.specs.Grammar.{IsLater, Begins}

-- ---- a field has a byte

spelling_long : (bytes : List ℕ) → IsSpelling bytes → 0 < length bytes
spelling_long [] is = absurd is
spelling_long (b ∷ bytes) is = omega arith

fields_few : (bytes : List ℕ) (items : List Item) (end : Option WireFault) → Reads bytes items end → length items ≤ length bytes
fields_few bytes [] end h = omega arith
fields_few bytes (i ∷ items) end h =
    let b = h.1 in
    let f = b.field in
    let few : length items ≤ length h.0 = fields_few h.0 items end h.2 in
    let long : 0 < length f.key = spelling_long f.key f.key_is.ends in
    omega (arith, few, long, ap length b.split, length-append b.head (b.held ++ h.0), length-append b.held h.0, ap length f.split, length-append f.key f.len)

consed_few : (b : Bool) (c : Content) (cs : List Content) (n : ℕ) → length cs ≤ n → length (if b then c ∷ cs else cs) ≤ n + 1
consed_few true c cs n few = omega arith
consed_few false c cs n few = omega arith

contents_few : (number : ℕ) (items : List Item) → length (contents number items) ≤ length items
contents_few number [] = omega arith
contents_few number (i ∷ items) = omega (arith, consed_few (number == i.number) i.content (contents number items) (length items) (contents_few number items))

one_few : (c : Content) → length (bytes_in c) ≤ 1
one_few (Number n) = omega arith
one_few (Eight bytes) = omega arith
one_few (Bytes bytes) = omega arith
one_few (Four bytes) = omega arith

byte_lists_few : (cs : List Content) → length (byte_lists cs) ≤ length cs
byte_lists_few [] = omega arith
byte_lists_few (c ∷ cs) = omega (arith, one_few c, byte_lists_few cs, length-append (bytes_in c) (byte_lists cs))

-- what is made of each of the fields with one number
made_few : {A B : Type 0} (number : ℕ) (made : List ℕ → A) (seen : A → B) (bytes : List ℕ) → length (map seen (map made (byte_lists (contents number (fields bytes).items)))) ≤ length bytes
made_few number made seen bytes =
    let items = (fields bytes).items in
    let lists = byte_lists (contents number items) in
    omega (arith, length-map (map made lists) seen, length-map lists made, byte_lists_few (contents number items), contents_few number items, fields_few bytes items (fields bytes).fault (reading_is_read bytes))

-- ---- messages

outcome_value : {A : Type 0} (fault : Option MessageFault) (v m : A) → outcome fault v ≡ Ok m → v ≡ m
outcome_value None v m e = cc
outcome_value (Some f) v m e = absurd cc

-- the records of a message, if it has any
abbrev records : Message → List FileInfo
records (ClusterConfig m) = []
records (IndexMessage m) = m.files
records (IndexUpdateMessage m) = m.files
records (Request m) = []
records (Response m) = []
records (DownloadProgress m) = []
records (Ping m) = []
records (Close m) = []

few_of : (bytes : List ℕ) (fault : Option MessageFault) (v m : Message) → outcome fault v ≡ Ok m → length (records v) ≤ length bytes → length (records m) ≤ length bytes
few_of bytes fault v m e few = subst (λ (x : Message). length (records x) ≤ length bytes) (outcome_value fault v m e) few

records_few : (n : ℕ) (bytes : List ℕ) (m : Message) → IsMessage (pos n) bytes m → length (records m) ≤ length bytes
records_few zero bytes m e = few_of bytes (message_fault cluster_config_table bytes) (ClusterConfig (cluster_config (value cluster_config_table bytes))) m e (omega arith)
records_few (suc zero) bytes m e = few_of bytes (message_fault index_table bytes) (IndexMessage (index (value index_table bytes))) m e (made_few 2 (λ held. values file_info_table (empty file_info_table) (fields held).items) file_info bytes)
records_few (suc (suc zero)) bytes m e = few_of bytes (message_fault index_update_table bytes) (IndexUpdateMessage (index_update (value index_update_table bytes))) m e (made_few 2 (λ held. values file_info_table (empty file_info_table) (fields held).items) file_info bytes)
records_few (suc (suc (suc zero))) bytes m e = few_of bytes (message_fault request_table bytes) (Request (request (value request_table bytes))) m e (omega arith)
records_few (suc (suc (suc (suc zero)))) bytes m e = few_of bytes (message_fault response_table bytes) (Response (response (value response_table bytes))) m e (omega arith)
records_few (suc (suc (suc (suc (suc zero))))) bytes m e = few_of bytes (message_fault download_progress_table bytes) (DownloadProgress (download_progress (value download_progress_table bytes))) m e (omega arith)
records_few (suc (suc (suc (suc (suc (suc zero)))))) bytes m e = few_of bytes (message_fault ping_table bytes) (Ping (ping (value ping_table bytes))) m e (omega arith)
records_few (suc (suc (suc (suc (suc (suc (suc zero))))))) bytes m e = few_of bytes (message_fault close_table bytes) (Close (close (value close_table bytes))) m e (omega arith)
records_few (suc (suc (suc (suc (suc (suc (suc (suc n)))))))) bytes m e = absurd e

message_few : (kind : ℤ) (bytes : List ℕ) (m : Message) → IsMessage kind bytes m → length (records m) ≤ length bytes
message_few (pos n) bytes m e = records_few n bytes m e
message_few (negsuc n) bytes m e = absurd e

-- ---- and their frames

body_shorter : (bytes : List ℕ) (f : Frame) (is : IsLater bytes f) → length is.body < length bytes
body_shorter bytes f is =
    let h = is.header in
    omega (arith, ap length h.split, length-append h.sized is.sized, ap length h.sized_is.split, length-append h.sized_is.size h.text, h.sized_is.width, ap length is.sized_is.split, length-append is.sized_is.size is.body)

-- so many in a body are fewer than the bytes of a frame, and its rest
frame_few : (bytes rest : List ℕ) (m : Message) → Begins false bytes (MessageFrame m) rest → length (records m) + length rest < length bytes
frame_few bytes rest m b =
    omega (arith, message_few b.frame.says.kind b.frame.body m b.frame.carries, body_shorter b.spelling (MessageFrame m) b.frame, ap length b.split, length-append b.spelling rest)

pub index_records : (bytes rest : List ℕ) (m : Index) → Begins false bytes (MessageFrame (IndexMessage m)) rest → length m.files + length rest < length bytes
index_records bytes rest m b = frame_few bytes rest (IndexMessage m) b

pub update_records : (bytes rest : List ℕ) (m : IndexUpdate) → Begins false bytes (MessageFrame (IndexUpdateMessage m)) rest → length m.files + length rest < length bytes
update_records bytes rest m b = frame_few bytes rest (IndexUpdateMessage m) b
