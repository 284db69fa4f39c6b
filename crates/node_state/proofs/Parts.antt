-- A folder's bytes are right exactly where each of its parts is.
use Rattle.std.proofs.Common.{◌≡◌, ◌≢◌, ℕ, List, [], ◌∷◌, length, map, None, refl, sym, ap, subst, ◌∙◌}
use Rattle.std.specs.FinMap.{from_entries}
use Rattle.std.specs.List.{AllByRecursion}
use Rattle.std.specs.Prelude.{AllPairs, filter}
use Rattle.bep_wire.specs.Fields.{fields}
use Rattle.bep_messages.specs.Faults.{message_fault}
use Rattle.bep_messages.specs.Tables.{Values}
use Rattle.bep_messages.specs.Values.{value}
use Rattle.bep_messages.proofs.Joins.{readable}
use Rattle.folder_core.specs.Restores.{MayRestore, restored_folder}
use Rattle.folder_core.specs.States.{FolderState}
use Rattle.folder_core.proofs.ReadLists.{Apart}
use Rattle.folder_core.proofs.RestoreFolders.{apart-pairs_by, pairs-apart_by}
use Rattle.sync_record.specs.Devices.{Identity}
use Rattle.node_state.specs.declared.edition.Edition.{Edition}
use Rattle.node_state.specs.declared.edition.Edition.TheVariants.{First, Second}
use Rattle.node_state.specs.declared.front.Front.{Front}
use Rattle.node_state.specs.declared.state.StoredFolder.{StoredFolder}
use Rattle.node_state.specs.Meaning.{IsEntry, Told, announced, peer_of, stored}
use Rattle.node_state.specs.Peers.{Peers, is_kept}
use Rattle.node_state.specs.Reading.{AreOnce, IsGoodEntry, IsGoodFolder, IsGoodPeer, entry_pairs, folder_told, front_parts, front_table, held, peer_pairs, peers_held}
use Rattle.node_state.specs.Tables.{entry_table, peer_table}
use Rattle.node_state.proofs.Rows.{pieces, whole}

pub map_both : {A B C : Type 0} (f : A → B) (g : B → C) (xs : List A) → map g (map f xs) ≡ map (λ x. g (f x)) xs
map_both f g [] = refl
map_both f g (x ∷ xs) = λ i. g (f x) ∷ map_both f g xs i

pub all_map : {A B : Type 0} (P : B → Type 0) (f : A → B) (xs : List A) → AllByRecursion (λ x. P (f x)) xs → AllByRecursion P (map f xs)
all_map P f [] h = tt
all_map P f (x ∷ xs) h = (h.0, all_map P f xs h.1)

pub of_map : {A B : Type 0} (P : B → Type 0) (f : A → B) (xs : List A) → AllByRecursion P (map f xs) → AllByRecursion (λ x. P (f x)) xs
of_map P f [] h = tt
of_map P f (x ∷ xs) h = (h.0, of_map P f xs h.1)

pub all_and : {A : Type 0} (P Q : A → Type 0) (xs : List A) → AllByRecursion P xs → AllByRecursion Q xs → AllByRecursion (λ x. P x × Q x) xs
all_and P Q [] h k = tt
all_and P Q (x ∷ xs) h k = ((h.0, k.0), all_and P Q xs h.1 k.1)

pub firsts : {A : Type 0} (P Q : A → Type 0) (xs : List A) → AllByRecursion (λ x. P x × Q x) xs → AllByRecursion P xs
firsts P Q [] h = tt
firsts P Q (x ∷ xs) h = (h.0.0, firsts P Q xs h.1)

pub seconds : {A : Type 0} (P Q : A → Type 0) (xs : List A) → AllByRecursion (λ x. P x × Q x) xs → AllByRecursion Q xs
seconds P Q [] h = tt
seconds P Q (x ∷ xs) h = (h.0.1, seconds P Q xs h.1)

-- ---- what is told, part by part

told-front : (edition : Edition) (bytes : List ℕ) → let f : Values front_table = ((folder_told edition bytes).id, ((folder_told edition bytes).index_id, ((folder_told edition bytes).last, tt))) in f ≡ value front_table bytes
told-front First bytes = refl
told-front Second bytes = refl

told-entries : (edition : Edition) (bytes : List ℕ) → (folder_told edition bytes).entries ≡ map (value entry_table) (held 4 bytes)
told-entries First bytes = refl
told-entries Second bytes = refl

told-peers : (edition : Edition) (bytes : List ℕ) → (folder_told edition bytes).peers ≡ map (value peer_table) (peers_held edition bytes)
told-peers First bytes = refl
told-peers Second bytes = refl

-- ---- devices that are apart

device_of : Identity × ℕ → Identity
device_of p = p.0

values_device : Values peer_table → Identity
values_device v = v.0

pub once-values : (vs : List (Values peer_table)) → AllPairs (λ p q. p.0 ≢ q.0) vs → AreOnce (map peer_of vs)
unfolding device_of values_device
once-values vs h =
    apart-pairs_by device_of (map peer_of vs) (subst Apart (sym (map_both peer_of device_of vs)) (pairs-apart_by values_device vs h))

pub values-once : (vs : List (Values peer_table)) → AreOnce (map peer_of vs) → AllPairs (λ p q. p.0 ≢ q.0) vs
unfolding device_of values_device
values-once vs h =
    apart-pairs_by values_device vs (subst Apart (map_both peer_of device_of vs) (pairs-apart_by device_of (map peer_of vs) h))

-- ---- the parts of a folder that is right

pub record Parts (me : Identity) (edition : Edition) (bytes : List ℕ) : Type 0 where
  pub front : message_fault front_table bytes ≡ None
  pub index_id : (value front_table bytes).1.0 ≢ 0
  pub entries : AllByRecursion IsGoodEntry (held 4 bytes)
  pub restores : MayRestore me (entry_pairs bytes) (value front_table bytes).1.1.0
  pub peers : AllByRecursion IsGoodPeer (peers_held edition bytes)
  pub once : AreOnce (peer_pairs edition bytes)

module _ (me : Identity) (edition : Edition) (bytes : List ℕ) where
  abbrev t : Told
  t = folder_told edition bytes

  entries-are : map announced t.entries ≡ entry_pairs bytes
  entries-are = ap (map announced) (told-entries edition bytes) ∙ map_both (value entry_table) announced (held 4 bytes)

  last-is : t.last ≡ (value front_table bytes).1.1.0
  last-is = ap (λ (v : Values front_table). v.1.1.0) (told-front edition bytes)

  pairs-are : map peer_of t.peers ≡ peer_pairs edition bytes
  pairs-are = ap (map peer_of) (told-peers edition bytes) ∙ map_both (value peer_table) peer_of (peers_held edition bytes)

  pub parts-of : IsGoodFolder me edition bytes → Parts me edition bytes
  parts-of good =
      let p = pieces edition bytes good.0 in
      let a = good.1 in
      record {
        front = p.front;
        index_id = subst (λ (n : ℕ). n ≢ 0) (ap (λ (v : Values front_table). v.1.0) (told-front edition bytes)) a.index_id;
        entries = all_and (λ b. message_fault entry_table b ≡ None) (λ b. IsEntry (value entry_table b)) (held 4 bytes) p.entries
            (of_map IsEntry (value entry_table) (held 4 bytes) (subst (AllByRecursion IsEntry) (told-entries edition bytes) a.entries));
        restores = subst (MayRestore me (entry_pairs bytes)) last-is (subst (λ es. MayRestore me es t.last) entries-are a.restores);
        peers = all_and (λ b. message_fault peer_table b ≡ None) (λ b. length (value peer_table b).0 ≡ 32) (peers_held edition bytes) p.peers
            (of_map (λ (v : Values peer_table). length v.0 ≡ 32) (value peer_table) (peers_held edition bytes)
            (subst (AllByRecursion (λ (v : Values peer_table). length v.0 ≡ 32)) (told-peers edition bytes) a.devices));
        once = subst AreOnce pairs-are (once-values t.peers a.once);
      }

  pub good-of : Parts me edition bytes → IsGoodFolder me edition bytes
  good-of p = (
    whole edition bytes (record {
      front = p.front;
      entries = firsts (λ b. message_fault entry_table b ≡ None) (λ b. IsEntry (value entry_table b)) (held 4 bytes) p.entries;
      peers = firsts (λ b. message_fault peer_table b ≡ None) (λ b. length (value peer_table b).0 ≡ 32) (peers_held edition bytes) p.peers;
    }),
    record {
      index_id = subst (λ (n : ℕ). n ≢ 0) (sym (ap (λ (v : Values front_table). v.1.0) (told-front edition bytes))) p.index_id;
      entries = subst (AllByRecursion IsEntry) (sym (told-entries edition bytes)) (all_map IsEntry (value entry_table) (held 4 bytes)
          (seconds (λ b. message_fault entry_table b ≡ None) (λ b. IsEntry (value entry_table b)) (held 4 bytes) p.entries));
      restores = subst (λ es. MayRestore me es t.last) (sym entries-are) (subst (MayRestore me (entry_pairs bytes)) (sym last-is) p.restores);
      devices = subst (AllByRecursion (λ (v : Values peer_table). length v.0 ≡ 32)) (sym (told-peers edition bytes))
          (all_map (λ (v : Values peer_table). length v.0 ≡ 32) (value peer_table) (peers_held edition bytes)
          (seconds (λ b. message_fault peer_table b ≡ None) (λ b. length (value peer_table b).0 ≡ 32) (peers_held edition bytes) p.peers));
      once = values-once t.peers (subst AreOnce (sym pairs-are) p.once);
    },
  )

  -- the folder that the parts make
  pub parts-stored : (f : Front) → front_parts f ≡ value front_table bytes → (s : FolderState) → s ≡ restored_folder me (entry_pairs bytes) f.last
      → (k : Peers) → k ≡ from_entries (filter is_kept (peer_pairs edition bytes))
      → let r : StoredFolder = record { id = f.id; index_id = f.index_id; folder = s; peers = k } in r ≡ stored me t
  parts-stored f is s s_is k k_is =
      let front : front_parts f ≡ let v : Values front_table = (t.id, (t.index_id, (t.last, tt))) in v = is ∙ sym (told-front edition bytes) in
      let state : s ≡ restored_folder me (map announced t.entries) t.last =
      s_is ∙ ap (restored_folder me (entry_pairs bytes)) (ap (λ (v : Values front_table). v.1.1.0) front) ∙ ap (λ es. restored_folder me es t.last) (sym entries-are) in
      let kept : k ≡ from_entries (filter is_kept (map peer_of t.peers)) = k_is ∙ ap (λ ps. from_entries (filter is_kept ps)) (sym pairs-are) in
      λ i. record { id = (front i).0; index_id = (front i).1.0; folder = state i; peers = kept i }

  pub last-told : (f : Front) → front_parts f ≡ value front_table bytes → f.last ≡ (value front_table bytes).1.1.0
  last-told f is = ap (λ (v : Values front_table). v.1.1.0) is

  pub no-fault : IsGoodFolder me edition bytes → (fields bytes).fault ≡ None
  no-fault good = (readable front_table bytes (parts-of good).front).0
