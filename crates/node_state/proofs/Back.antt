-- A written state is read as it was.
use Rattle.std.proofs.Common.{◌≡◌, ◌≢◌, ℕ, Bool, true, false, pos, List, [], ◌∷◌, length, map, refl, sym, ap, subst, ◌∙◌}
use Rattle.std.specs.FinMap.{empty, entries, from_entries}
use Rattle.std.specs.List.{AllByRecursion}
use Rattle.std.specs.Prelude.{AllPairs, Option, Some, None, Ok, cond, filter}
use Rattle.bep_messages.specs.declared.fault.MessageFault.{MessageFault}
use Rattle.bep_messages.specs.declared.file_info.FileInfo.{FileInfo}
use Rattle.bep_messages.specs.Faults.{message_fault, outcome}
use Rattle.bep_messages.specs.Forms.{form, Fits}
use Rattle.bep_messages.specs.Structs.{file_info, file_info_parts}
use Rattle.bep_messages.specs.Tables.{Values}
use Rattle.bep_messages.specs.Values.{value}
use Rattle.bep_messages.specs.Wholes.{file_info_whole}
use Rattle.bep_messages.proofs.Again.{decoded_form}
use Rattle.folder_core.specs.Restores.{MayRestore, records_of, restored_folder}
use Rattle.folder_core.proofs.ListTests.{of_filter}
use Rattle.folder_core.proofs.Orders.{bytes_total, exact_names}
use Rattle.folder_core.proofs.ReadLists.{Apart, apart-filter, apart-map}
use Rattle.folder_core.proofs.ReadNumbers.{entries-apart, one-entry}
use Rattle.folder_core.proofs.RestoreFolders.{apart-pairs_by, pairs-apart_by, may-again, restored-again}
use Rattle.sync_names.specs.Refusal.{refusal}
use Rattle.sync_record.specs.Devices.{Identity}
use Rattle.sync_record.specs.Infos.{info_of, record_of}
use Rattle.sync_record.specs.Records.{FileRecord}
use Rattle.node_state.specs.declared.edition.Edition.TheVariants.{Second}
use Rattle.node_state.specs.declared.state.State.{State}
use Rattle.node_state.specs.declared.state.StoredFolder.{StoredFolder}
use Rattle.node_state.specs.Meaning.{IsAllowed, IsEntry, IsOwn, IsReadable, Means, Told, announced, peer_of, stored, told, told_second, written_folder, written_state}
use Rattle.node_state.specs.Peers.{Peers, is_kept}
use Rattle.node_state.specs.Reading.{AreOnce, IsReadBack, IsWritable}
use Rattle.node_state.specs.Tables.{peer_table, state_table}
use Rattle.node_state.specs.Written.{entry_values, folder_values, kept_peers, peer_values, state_bytes, state_values}
use Rattle.node_state.proofs.Parts.{all_map, values-once}
use Rattle.node_state.proofs.PeerMaps.{device_of}

-- ---- records

entry-back : (p : Identity × FileRecord) → IsReadBack p → announced (entry_values p) ≡ p
entry-back p back = let r : record_of (file_info (file_info_parts (info_of p.1))) ≡ p.1 = ap record_of (file_info_whole (info_of p.1)) ∙ back.same in λ i. (p.0, r i)

entries-back : (ps : List (Identity × FileRecord)) → AllByRecursion IsReadBack ps → map announced (map entry_values ps) ≡ ps
entries-back [] back = refl
entries-back (p ∷ ps) back = let first = entry-back p back.0 in let rest = entries-back ps back.1 in λ i. first i ∷ rest i

are-entries : (ps : List (Identity × FileRecord)) → AllByRecursion IsReadBack ps → AllByRecursion IsEntry (map entry_values ps)
are-entries [] back = tt
are-entries (p ∷ ps) back = ((back.0.device, ap (λ (f : FileInfo). refusal f.name) (file_info_whole (info_of p.1)) ∙ back.0.name), are-entries ps back.1)

-- ---- peers

peers-back : (ps : List (Identity × ℕ)) → map peer_of (map peer_values ps) ≡ ps
peers-back [] = refl
peers-back (p ∷ ps) = ap (λ (l : List (Identity × ℕ)). p ∷ l) (peers-back ps)

kept-first : (p : Identity × ℕ) (ps : List (Identity × ℕ)) (b : Bool) → is_kept p ≡ b → filter is_kept ps ≡ ps → filter is_kept (cond b (p ∷ ps) ps) ≡ cond b (p ∷ ps) ps
kept-first p ps true e rest = ap (λ b. cond b (p ∷ filter is_kept ps) (filter is_kept ps)) e ∙ ap (λ (l : List (Identity × ℕ)). p ∷ l) rest
kept-first p ps false e rest = rest

kept-once : (ps : List (Identity × ℕ)) → filter is_kept (filter is_kept ps) ≡ filter is_kept ps
kept-once [] = refl
kept-once (p ∷ ps) = kept-first p (filter is_kept ps) (is_kept p) refl (kept-once ps)

peers-apart : (m : Peers) → AreOnce (kept_peers m)
peers-apart m =
    apart-pairs_by device_of (kept_peers m) (apart-map device_of (kept_peers m) (apart-filter is_kept (entries m) (entries-apart bytes_total exact_names m))
    (λ d e i j same. one-entry bytes_total exact_names m d e (of_filter is_kept (entries m) d i).0 (of_filter is_kept (entries m) e j).0 same))

-- ---- a folder

module _ (me : Identity) (f : StoredFolder) (w : IsWritable f) (own : IsOwn me f) where
  abbrev t : Told
  t = told_second (folder_values f)

  records-are : map announced t.entries ≡ records_of f.folder
  records-are = entries-back (records_of f.folder) w.records

  may : MayRestore me (map announced t.entries) t.last
  may = subst (λ es. MayRestore me es (pos f.folder.last)) (sym records-are)
      (subst (λ d. MayRestore d (records_of f.folder) (pos f.folder.last)) own.device (may-again f.folder w.folder))

  folder-is : restored_folder me (map announced t.entries) t.last ≡ record f.folder { pulls = empty }
  folder-is =
      ap (λ es. restored_folder me es (pos f.folder.last)) records-are
      ∙ ap (λ d. restored_folder d (records_of f.folder) (pos f.folder.last)) (sym own.device)
      ∙ restored-again f.folder w.folder

  kept-is : from_entries (filter is_kept (map peer_of t.peers)) ≡ (let m : Peers = from_entries (kept_peers f.peers) in m)
  kept-is = ap (λ ps. from_entries (filter is_kept ps)) (peers-back (kept_peers f.peers)) ∙ ap (λ ps. from_entries ps) (kept-once (entries f.peers))

  allowed-back : IsAllowed me t
  allowed-back = record {
    index_id = own.index_id;
    entries = are-entries (records_of f.folder) w.records;
    restores = may;
    devices = all_map (λ (v : Values peer_table). length v.0 ≡ 32) peer_values (kept_peers f.peers) w.peers;
    once = values-once t.peers (subst AreOnce (sym (peers-back (kept_peers f.peers))) (peers-apart f.peers));
  }

  stored-back : written_folder f ≡ stored me t
  stored-back = λ i. record { id = f.id; index_id = f.index_id; folder = sym folder-is i; peers = sym kept-is i }

-- ---- a state

outcome-ok : {A : Type 0} (o : Option MessageFault) (x y : A) → outcome o x ≡ Ok y → (o ≡ None) × (x ≡ y)
outcome-ok None x y e = (refl, cc)
outcome-ok (Some f) x y e = absurd cc

module _ (me : Identity) where
  allowed-all : (fs : List StoredFolder) → AllByRecursion IsWritable fs → AllByRecursion (IsOwn me) fs → AllByRecursion (IsAllowed me) (map told_second (map folder_values fs))
  allowed-all [] w own = tt
  allowed-all (f ∷ fs) w own = (allowed-back me f w.0 own.0, allowed-all fs w.1 own.1)

  stored-all : (fs : List StoredFolder) → AllByRecursion IsWritable fs → AllByRecursion (IsOwn me) fs → map written_folder fs ≡ map (stored me) (map told_second (map folder_values fs))
  stored-all [] w own = refl
  stored-all (f ∷ fs) w own = let first = stored-back me f w.0 own.0 in let rest = stored-all fs w.1 own.1 in λ i. first i ∷ rest i

told_id : Told → List ℕ
told_id t = t.id

folder_id : StoredFolder → List ℕ
folder_id f = f.id

ids-are : (fs : List StoredFolder) → map told_id (map told_second (map folder_values fs)) ≡ map folder_id fs
unfolding told_id folder_id
ids-are [] = refl
ids-are (f ∷ fs) = ap (λ (l : List (List ℕ)). f.id ∷ l) (ids-are fs)

once-told : (fs : List StoredFolder) → AllPairs (λ f g. f.id ≢ g.id) fs → AllPairs (λ f g. f.id ≢ g.id) (map told_second (map folder_values fs))
unfolding told_id folder_id
once-told fs once = apart-pairs_by told_id (map told_second (map folder_values fs)) (subst Apart (sym (ids-are fs)) (pairs-apart_by folder_id fs once))

pub means-again : (s : State) → Fits state_table (state_values s) → AllByRecursion IsWritable s.folders → (me : Identity) → IsReadable me s → Means me (state_bytes s) (written_state s)
means-again s fits w me readable =
    let body = form state_table (state_values s) in
    let read = outcome-ok (message_fault state_table body) (value state_table body) (state_values s) (decoded_form state_table (λ v. v) (state_values s) refl fits) in
    let told-is : told Second body ≡ map told_second (map folder_values s.folders) = ap (λ (v : Values state_table). map told_second v.0) read.1 in
    record {
      edition = Second;
      body = body;
      begins = refl;
      readable = read.0;
      allowed = subst (AllByRecursion (IsAllowed me)) (sym told-is) (allowed-all me s.folders w readable.own);
      once = subst (λ (ts : List Told). AllPairs (λ f g. f.id ≢ g.id) ts) (sym told-is) (once-told s.folders readable.once);
      is = stored-all me s.folders w readable.own ∙ ap (map (stored me)) (sym told-is);
    }
