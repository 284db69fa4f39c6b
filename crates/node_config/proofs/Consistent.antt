-- A configuration that a document has follows the rules.
use Rattle.std.proofs.Common.{◌≡◌, ◌≢◌, ℕ, ◌+◌, ◌<◌, ◌≤◌, Bool, true, false, ◌&&◌, ◌||◌, List, [], ◌∷◌, ◌++◌, length, get_or, ℤ, pos, negsuc, ◌≤ℤ◌, Option, Some, None, Ok, ◌∙◌, ap, refl, sym, subst, arith}
use Rattle.std.specs.Prelude.{nat_le, IfSome, int_le, unsigned_abs, position, nat_lt, All, ◌==◌}
use Rattle.std.specs.List.{list_any, position_or_len}
use Rattle.std.specs.Option.{ok_or}
use Rattle.std.specs.declared.net.socket_addr.SocketAddrV4.{SocketAddrV4}
use Rattle.std.proofs.lemmas.Bool.{and_parts, ltb-true}
use Rattle.std.proofs.lemmas.Bool.Decides.{nat_tests}
use Rattle.std.proofs.lemmas.Int.{ints}
use Rattle.std.proofs.lemmas.List.Elements.{All-nil, All-push}
use Rattle.std.proofs.lemmas.List.Quantifiers.{all_pairs_push}
use Rattle.std.proofs.lemmas.Slice.Eq.{bytes_eq-Decides}
use Rattle.toml.specs.Data.{Data, Items, no_items, item, Members, get_member, as_str}
use Rattle.sync_record.specs.Devices.{short_id}
use Rattle.node_config.specs.Documents.{config_of}
use Rattle.node_config.specs.Folders.{has_id, checked_id, files_of, folder_of, folders_after, folders_at, id_at, numbers_of, with_numbers}
use Rattle.node_config.specs.Addresses.{socket_text}
use Rattle.node_config.specs.FolderNumbers.{IsIn, key_of, no_number, number_in, range_of}
use Rattle.node_config.specs.Keys.{key_name}
use Rattle.node_config.specs.Modes.{IsMode, is_octal_from, mode_at, mode_of, mode_of_text, mode_or_none}
use Rattle.node_config.specs.Paths.{is_of_home, optional_path_at, path_at}
use Rattle.node_config.specs.Peers.{is_taken, is_short_id_taken, checked_device, place_of, places_after, places_at, listens_at, checked_listen, address_of, address_at, peer_of, peers_after, peers_at}
use Rattle.node_config.specs.Rules.{IsFolder, AreFolders, ArePeers, IsConsistent, IsListenedAt}
use Rattle.node_config.specs.Values.{text_of, text_at, array_at, integer_of, number_or_default, number_at, device_at, tables_of, table_of, ◌>>=◌}
use Rattle.node_config.specs.declared.config.Config.{Config}
use Rattle.node_config.specs.declared.config.FolderConfig.{FolderConfig}
use Rattle.node_config.specs.declared.config.PeerConfig.{PeerConfig}
use Rattle.node_config.specs.declared.config.PeerAddress.{PeerAddress}
use Rattle.node_config.specs.declared.config.PeerAddress.TheVariants.{Dial, Listen}
use Rattle.node_config.specs.declared.fault.ConfigFault.TheVariants.{BadKey}
use Rattle.node_config.specs.declared.folders.FileRules.{FileRules}
use Rattle.node_config.specs.declared.folders.Numbers.{Numbers}
use Rattle.node_config.specs.declared.folder_numbers.FolderNumber.{FolderNumber}
use Rattle.node_config.specs.declared.folder_numbers.FolderNumber.TheVariants.{HistoryLimit, MaxConflicts, Rescan, Look, TrashDays}
use Rattle.node_config.specs.declared.key.Key.{Key}
use Rattle.node_config.specs.declared.key.Key.TheVariants.{Name, State, Status, Folder as FolderKey, Peer as PeerKey, Id, Path, Mode, Folders, Dial as DialKey, Listen as ListenKey}
use Rattle.node_config.specs.declared.key.TablePlace.{TablePlace}
use Rattle.node_config.specs.declared.key.TablePlace.TheVariants.{Node, Folder, Peer}
use Rattle.node_config.specs.declared.key.Problem.TheVariants.{NotStrings, NotMode}
use Rattle.node_config.proofs.AddressLemmas.{same_socket}
use Rattle.node_config.proofs.Steps.{both, value_of, passed, tested, some_where, none_passes, differs}

-- folders

within : (low high n : ℤ) → (int_le low n && int_le n high) ≡ true → (low ≤ℤ n) × (n ≤ℤ high)
within low high n h =
    let (a, b) = and_parts (int_le low n) (int_le n high) h in
    (grind (arith, ints), grind (arith, ints))

default_in : (number : FolderNumber) → IsIn (range_of number) (range_of number).default
default_in HistoryLimit = (omega (arith, ints), omega (arith, ints))
default_in MaxConflicts = (omega (arith, ints), omega (arith, ints))
default_in Rescan = (omega (arith, ints), omega (arith, ints))
default_in Look = (omega (arith, ints), omega (arith, ints))
default_in TrashDays = (omega (arith, ints), omega (arith, ints))

number_found : (place : TablePlace) (number : FolderNumber) (n : ℤ) (o : Option Data) → number_or_default place number o ≡ Ok n → IsIn (range_of number) n
number_found place number n None h =
    let same : (range_of number).default ≡ n = cc h in
    subst (IsIn (range_of number)) same (default_in number)
number_found place number n (Some value) h =
    let range = range_of number in
    let (x, found, rest) = both (ok_or (integer_of number value) (BadKey place (key_of number) (no_number number))) _ n h in
    let (test, same) = tested (int_le range.low x && int_le x range.high) x _ n rest in
    subst (IsIn range) same (within range.low range.high x test)

-- numbers that are not negative are kept without a sign
limit_kept : (z : ℤ) → IsIn (range_of HistoryLimit) z → IsIn (range_of HistoryLimit) (pos (unsigned_abs z))
limit_kept (pos n) h = h
limit_kept (negsuc n) (l, g) = absurd (omega (arith, ints))

rescan_kept : (z : ℤ) → IsIn (range_of Rescan) z → IsIn (range_of Rescan) (pos (unsigned_abs z))
rescan_kept (pos n) h = h
rescan_kept (negsuc n) (l, g) = absurd (omega (arith, ints))

days_kept : (z : ℤ) → IsIn (range_of TrashDays) z → IsIn (range_of TrashDays) (pos (unsigned_abs z))
days_kept (pos n) h = h
days_kept (negsuc n) (l, g) = absurd (omega (arith, ints))

in_ranges : (folder : FolderConfig) → IsIn (range_of HistoryLimit) (pos folder.history_limit) → IsIn (range_of MaxConflicts) folder.max_conflicts → IsIn (range_of Rescan) (pos folder.rescan) → IsIn (range_of Look) folder.look → IsIn (range_of TrashDays) (pos folder.trash_days)
    → (number : FolderNumber) → IsIn (range_of number) (number_in number folder)
in_ranges folder limit most seconds look days HistoryLimit = limit
in_ranges folder limit most seconds look days MaxConflicts = most
in_ranges folder limit most seconds look days Rescan = seconds
in_ranges folder limit most seconds look days Look = look
in_ranges folder limit most seconds look days TrashDays = days

not_empty : (id : List ℕ) → (length id == 0) ≡ false → id ≢ []
not_empty [] h = cc h
not_empty (x ∷ xs) h = λ e. cc e

id_found : (earlier : List FolderConfig) (place : TablePlace) (text id : List ℕ) → checked_id earlier place text ≡ Ok id → (id ≢ []) × (list_any (has_id id) earlier ≡ false)
id_found earlier place text id h =
    let (some, rest) = passed (length text == 0) _ _ id h in
    let (new, last) = passed (list_any (has_id text) earlier) _ _ id rest in
    let same : text ≡ id = cc last in
    subst (λ (t : List ℕ). (t ≢ []) × (list_any (has_id t) earlier ≡ false)) same (not_empty text some, new)

-- each number is in its range
abbrev AreIn : Numbers → Type 0
AreIn n = IsIn (range_of HistoryLimit) (pos n.history_limit) × IsIn (range_of MaxConflicts) n.max_conflicts × IsIn (range_of Rescan) (pos n.rescan) × IsIn (range_of Look) n.look

numbers_found : (table : Members) (place : TablePlace) (numbers : Numbers) → numbers_of table place ≡ Ok numbers → AreIn numbers
numbers_found table place numbers h =
    let (limit, l, h1) = both (number_at table place HistoryLimit) _ numbers h in
    let (most, m, h2) = both (number_at table place MaxConflicts) _ numbers h1 in
    let (seconds, r, h3) = both (number_at table place Rescan) _ numbers h2 in
    let (look, k, h4) = both (number_at table place Look) _ numbers h3 in
    let made : Numbers = record { history_limit = unsigned_abs limit; max_conflicts = most; rescan = unsigned_abs seconds; look = look } in
    let same : made ≡ numbers = cc h4 in
    let a = number_found place HistoryLimit limit (get_member (key_name (key_of HistoryLimit)) table) l in
    let b = number_found place MaxConflicts most (get_member (key_name (key_of MaxConflicts)) table) m in
    let c = number_found place Rescan seconds (get_member (key_name (key_of Rescan)) table) r in
    let d = number_found place Look look (get_member (key_name (key_of Look)) table) k in
    subst AreIn same (limit_kept limit a, b, rescan_kept seconds c, d)

-- a path that was found is not empty
path_found : (table : Members) (place : TablePlace) (key : Key) (path : List ℕ) → path_at table place key ≡ Ok path → path ≢ []
path_found table place key path h =
    let (text, x, h1) = both (text_at table place key) _ path h in
    let (some, rest) = passed (length text == 0) _ _ path h1 in
    let (whole, last) = passed (is_of_home text) _ _ path rest in
    let same : text ≡ path = cc last in
    subst (λ (t : List ℕ). t ≢ []) same (not_empty text some)

id_at_found : (earlier : List FolderConfig) (table : Members) (place : TablePlace) (id : List ℕ) → id_at earlier table place ≡ Ok id → (id ≢ []) × (list_any (has_id id) earlier ≡ false)
id_at_found earlier table place id h =
    let (text, x, rest) = both (text_at table place Id) _ id h in
    id_found earlier place text id rest

if_some : {A : Type 0} {P : A → Type 0} (o : Option A) → ((x : A) → o ≡ Some x → P x) → IfSome o P
if_some None h = tt
if_some (Some x) h = h x refl

-- the mode that a text writes is one
mode_is : (text : List ℕ) (mode : ℕ) → mode_of text ≡ Some mode → IsMode mode
mode_is [] mode h = cc h
mode_is (a ∷ []) mode h = cc h
mode_is (a ∷ b ∷ []) mode h = cc h
mode_is (a ∷ b ∷ c ∷ []) mode h =
    let (test, same) = some_where (is_octal_from 54 a && (is_octal_from 48 b && is_octal_from 48 c)) _ mode h in
    let (owner, others) = and_parts (is_octal_from 54 a) (is_octal_from 48 b && is_octal_from 48 c) test in
    let (group, other) = and_parts (is_octal_from 48 b) (is_octal_from 48 c) others in
    let (la, ga) = and_parts (nat_le 54 a) (nat_le a 55) owner in
    let (lb, gb) = and_parts (nat_le 48 b) (nat_le b 55) group in
    let (lc, gc) = and_parts (nat_le 48 c) (nat_le c 55) other in
    (grind (arith, nat_tests), grind (arith, nat_tests))
mode_is (a ∷ b ∷ c ∷ d ∷ rest) mode h = cc h

modes : (o : Option (List ℕ)) → IfSome (mode_of_text o) IsMode
modes None = tt
modes (Some text) = if_some (mode_of text) (mode_is text)

mode_of_value : (place : TablePlace) (o : Option ℕ) (mode : Option ℕ) → (ok_or o (BadKey place Mode NotMode) >>= λ found. Ok (Some found)) ≡ Ok mode → o ≡ mode
mode_of_value place None mode h = cc h
mode_of_value place (Some found) mode h = cc h

mode_found : (place : TablePlace) (o : Option Data) (mode : Option ℕ) → mode_or_none place o ≡ Ok mode → IfSome mode IsMode
mode_found place None mode h =
    let same : None ≡ mode = cc h in
    subst (λ (m : Option ℕ). IfSome m IsMode) same tt
mode_found place (Some value) mode h =
    subst (λ (m : Option ℕ). IfSome m IsMode) (mode_of_value place (mode_of_text (as_str value)) mode h) (modes (as_str value))

-- the days of the trash are in their range, and the mode is one
abbrev AreRules : FileRules → Type 0
AreRules files = IsIn (range_of TrashDays) (pos files.trash_days) × IfSome files.mode IsMode

files_found : (table : Members) (place : TablePlace) (files : FileRules) → files_of table place ≡ Ok files → AreRules files
files_found table place files h =
    let (days, t, h1) = both (number_at table place TrashDays) _ files h in
    let (mode, o, h2) = both (mode_at table place) _ files h1 in
    let made : FileRules = record { trash_days = unsigned_abs days; mode = mode } in
    let same : made ≡ files = cc h2 in
    let found = number_found place TrashDays days (get_member (key_name (key_of TrashDays)) table) t in
    subst AreRules same (days_kept days found, mode_found place (get_member (key_name Mode) table) mode o)

folder_found : (earlier : List FolderConfig) (value : Data) (folder : FolderConfig) → folder_of earlier value ≡ Ok folder → IsFolder folder × (list_any (has_id folder.id) earlier ≡ false)
folder_found earlier value folder h =
    let (table, t, h1) = both (table_of FolderKey value) _ folder h in
    let (id, i, h2) = both (id_at earlier table (Folder (length earlier + 1))) _ folder h1 in
    let (path, p, h3) = both (path_at table (Folder (length earlier + 1)) Path) _ folder h2 in
    let (numbers, m, h4) = both (numbers_of table (Folder (length earlier + 1))) _ folder h3 in
    let (files, o, h5) = both (files_of table (Folder (length earlier + 1))) _ folder h4 in
    let same : with_numbers id path numbers files ≡ folder = cc h5 in
    let is = id_at_found earlier table (Folder (length earlier + 1)) id i in
    let (e, mode) = files_found table (Folder (length earlier + 1)) files o in
    let (a, b, c, d) = numbers_found table (Folder (length earlier + 1)) numbers m in
    subst (λ (f : FolderConfig). IsFolder f × (list_any (has_id f.id) earlier ≡ false)) same (
      record {
        id = is.0;
        path = path_found table (Folder (length earlier + 1)) Path path p;
        numbers = in_ranges (with_numbers id path numbers files) a b c d e;
        mode = mode;
      },
      is.1,
    )

more_folders : (earlier : List FolderConfig) (folder : FolderConfig) → AreFolders earlier → IsFolder folder × (list_any (has_id folder.id) earlier ≡ false) → AreFolders (earlier ++ folder ∷ [])
more_folders earlier folder e h = (
  All-push IsFolder earlier folder e.0 h.0,
  all_pairs_push (λ a b. a.id ≢ b.id) earlier folder e.1 (λ k d inside. differs (get_or earlier k d).id folder.id (none_passes (has_id folder.id) earlier k d h.1 inside)),
)

folders_found : (earlier : List FolderConfig) (values : Items) (folders : List FolderConfig) → folders_after earlier values ≡ Ok folders → AreFolders earlier → AreFolders folders
folders_found earlier no_items folders h e =
    let same : earlier ≡ folders = cc h in
    subst AreFolders same e
folders_found earlier (item value values) folders h e =
    let (folder, one, rest) = both (folder_of earlier value) (λ folder. folders_after (earlier ++ folder ∷ []) values) folders h in
    folders_found (earlier ++ folder ∷ []) values folders rest (more_folders earlier folder e (folder_found earlier value folder one))

no_folders : AreFolders []
no_folders = (All-nil IsFolder, λ i j d a b. absurd (omega arith))

folders_at_found : (document : Members) (folders : List FolderConfig) → folders_at document ≡ Ok folders → AreFolders folders
folders_at_found document folders h =
    let (values, v, rest) = both (tables_of FolderKey (get_member (key_name FolderKey) document)) (folders_after []) folders h in
    folders_found [] values folders rest no_folders

-- peers

place_found : (folders : List FolderConfig) (place : TablePlace) (entry index : ℕ) (value : Data) → place_of folders place entry value ≡ Ok index → index < length folders
place_found folders place entry index value h =
    let (id, t, rest) = both (ok_or (as_str value) (BadKey place Folders NotStrings)) _ index h in
    let found : position (has_id id) folders ≡ Some index = value_of (position (has_id id) folders) _ index rest in
    let (test, same) = some_where (nat_lt (position_or_len (has_id id) folders) (length folders)) (position_or_len (has_id id) folders) index found in
    subst (λ (k : ℕ). k < length folders) same (ltb-true _ _ test)

places_found : (folders : List FolderConfig) (place : TablePlace) (earlier : List ℕ) (values : Items) (places : List ℕ) → places_after folders place earlier values ≡ Ok places → All (λ k. k < length folders) earlier → All (λ k. k < length folders) places
places_found folders place earlier no_items places h e =
    let same : earlier ≡ places = cc h in
    subst (λ (ks : List ℕ). All (λ k. k < length folders) ks) same e
places_found folders place earlier (item value values) places h e =
    let (index, one, rest) = both (place_of folders place (length earlier + 1) value) (λ index. places_after folders place (earlier ++ index ∷ []) values) places h in
    places_found folders place (earlier ++ index ∷ []) values places rest (All-push (λ k. k < length folders) earlier index e (place_found folders place (length earlier + 1) index value one))

places_at_found : (folders : List FolderConfig) (table : Members) (place : TablePlace) (places : List ℕ) → places_at folders table place ≡ Ok places → All (λ k. k < length folders) places
places_at_found folders table place places h =
    let (values, v, rest) = both (array_at table place Folders) (places_after folders place []) places h in
    places_found folders place [] values places rest (All-nil (λ k. k < length folders))

neither : (a b : Bool) → (a || b) ≡ false → (a ≡ false) × (b ≡ false)
neither true b h = cc h
neither false b h = (refl, h)

device_found : (me : List ℕ) (earlier : List PeerConfig) (place : TablePlace) (identity device : List ℕ) → checked_device me earlier place identity ≡ Ok device → is_short_id_taken me earlier (short_id device) ≡ false
device_found me earlier place identity device h =
    let (new, rest) = passed (is_taken me earlier identity) _ _ device h in
    let (short, last) = passed (is_short_id_taken me earlier (short_id identity)) _ _ device rest in
    let same : identity ≡ device = cc last in
    subst (λ (d : List ℕ). is_short_id_taken me earlier (short_id d) ≡ false) same short

differ : (m n : ℕ) → (m == n) ≡ false → m ≢ n
differ m n h = grind (arith, nat_tests)

-- no earlier peer is listened for at the address
abbrev IsApart : List PeerConfig → PeerAddress → Type 0
IsApart earlier address = (k : ℕ) (d : PeerConfig) → k < length earlier → (one other : List ℕ) → (get_or earlier k d).address ≡ Listen one → address ≡ Listen other → socket_text one ≢ socket_text other

listens_there : (address : PeerAddress) (one text : List ℕ) → address ≡ Listen one → socket_text one ≡ socket_text text → listens_at text address ≡ true
listens_there (Dial t) one text e same = cc e
listens_there (Listen t) one text e same =
    let there : t ≡ one = cc e in
    (bytes_eq-Decides (socket_text t) (socket_text text)).1 (ap socket_text there ∙ same)

listen_found : (earlier : List PeerConfig) (place : TablePlace) (text : List ℕ) (address : PeerAddress) → checked_listen earlier place text ≡ Ok address → IsApart earlier address
listen_found earlier place text address h =
    let (none, last) = passed (list_any (λ peer. listens_at text peer.address) earlier) _ _ address h in
    λ k d inside one other there here same.
    let it : other ≡ text = cc (last, here) in
    let heard = listens_there (get_or earlier k d).address one text there (same ∙ ap socket_text it) in
    cc (none_passes (λ peer. listens_at text peer.address) earlier k d none inside, heard)

apart_at : (one other : PeerConfig) → ((text text' : List ℕ) → one.address ≡ Listen text → other.address ≡ Listen text' → socket_text text ≢ socket_text text')
    → (address : SocketAddrV4) → IsListenedAt address one → IsListenedAt address other → ⊥
apart_at one other apart address (text, there, h) (text', here, k) = apart text text' there here ((same_socket text text' address address h k).1 refl)

apart_by : (one other : PeerConfig) → ((text text' : List ℕ) → one.address ≡ Listen text → other.address ≡ Listen text' → socket_text text ≢ socket_text text')
    → (text : List ℕ) → one.address ≡ Listen text → other.address ≢ Listen text
apart_by one other apart text there here = apart text text there here refl

address_found : (earlier : List PeerConfig) (place : TablePlace) (dial listen : Option Data) (address : PeerAddress) → address_of earlier place dial listen ≡ Ok address → IsApart earlier address
address_found earlier place None None address h = cc h
address_found earlier place (Some dial) None address h =
    let (text, t, last) = both (text_of place DialKey dial) (λ text. Ok (Dial text)) address h in
    λ k d inside one other there here. cc (last, here)
address_found earlier place None (Some listen) address h =
    let (text, t, last) = both (text_of place ListenKey listen) (checked_listen earlier place) address h in
    listen_found earlier place text address last
address_found earlier place (Some dial) (Some listen) address h = cc h

-- what a new peer is, beside the earlier ones
abbrev IsNewPeer : List ℕ → List FolderConfig → List PeerConfig → PeerConfig → Type 0
IsNewPeer me folders earlier peer = All (λ k. k < length folders) peer.folders × (is_short_id_taken me earlier (short_id peer.device) ≡ false) × IsApart earlier peer.address

peer_found : (me : List ℕ) (folders : List FolderConfig) (earlier : List PeerConfig) (value : Data) (peer : PeerConfig) → peer_of me folders earlier value ≡ Ok peer → IsNewPeer me folders earlier peer
peer_found me folders earlier value peer h =
    let (table, t, h1) = both (table_of PeerKey value) _ peer h in
    let (identity, i, h2) = both (device_at table (Peer (length earlier + 1))) _ peer h1 in
    let (device, d, h3) = both (checked_device me earlier (Peer (length earlier + 1)) identity) _ peer h2 in
    let (places, p, h4) = both (places_at folders table (Peer (length earlier + 1))) _ peer h3 in
    let (address, a, h5) = both (address_at earlier table (Peer (length earlier + 1))) _ peer h4 in
    let made : PeerConfig = record { device = device; folders = places; address = address } in
    let same : made ≡ peer = cc h5 in
    subst (IsNewPeer me folders earlier) same (
      places_at_found folders table (Peer (length earlier + 1)) places p,
      device_found me earlier (Peer (length earlier + 1)) identity device d,
      address_found earlier (Peer (length earlier + 1)) (get_member (key_name DialKey) table) (get_member (key_name ListenKey) table) address a,
    )

more_peers : (me : List ℕ) (folders : List FolderConfig) (earlier : List PeerConfig) (peer : PeerConfig) → ArePeers me (length folders) earlier → IsNewPeer me folders earlier peer → ArePeers me (length folders) (earlier ++ peer ∷ [])
more_peers me folders earlier peer e h =
    let (own, others) = neither (short_id me == short_id peer.device) (list_any (λ p. short_id p.device == short_id peer.device) earlier) h.1 in
    record {
      places = All-push (λ p. All (λ k. k < length folders) p.folders) earlier peer e.places h.0;
      own_id = All-push (λ p. short_id p.device ≢ short_id me) earlier peer e.own_id (λ same. differ _ _ own (sym same));
      short_ids = all_pairs_push (λ a b. short_id a.device ≢ short_id b.device) earlier peer e.short_ids (λ k d inside. differ (short_id (get_or earlier k d).device) (short_id peer.device) (none_passes (λ p. short_id p.device == short_id peer.device) earlier k d others inside));
      listens = all_pairs_push (λ a b. (address : SocketAddrV4) → IsListenedAt address a → IsListenedAt address b → ⊥) earlier peer e.listens (λ k d inside. apart_at (get_or earlier k d) peer (h.2 k d inside));
      listen_texts = all_pairs_push (λ a b. (text : List ℕ) → a.address ≡ Listen text → b.address ≢ Listen text) earlier peer e.listen_texts (λ k d inside. apart_by (get_or earlier k d) peer (h.2 k d inside));
    }

peers_found : (me : List ℕ) (folders : List FolderConfig) (earlier : List PeerConfig) (values : Items) (peers : List PeerConfig) → peers_after me folders earlier values ≡ Ok peers → ArePeers me (length folders) earlier → ArePeers me (length folders) peers
peers_found me folders earlier no_items peers h e =
    let same : earlier ≡ peers = cc h in
    subst (ArePeers me (length folders)) same e
peers_found me folders earlier (item value values) peers h e =
    let (peer, one, rest) = both (peer_of me folders earlier value) (λ peer. peers_after me folders (earlier ++ peer ∷ []) values) peers h in
    peers_found me folders (earlier ++ peer ∷ []) values peers rest (more_peers me folders earlier peer e (peer_found me folders earlier value peer one))

no_peers : (me : List ℕ) (number : ℕ) → ArePeers me number []
no_peers me number = record {
  places = All-nil (λ p. All (λ k. k < number) p.folders);
  own_id = All-nil (λ p. short_id p.device ≢ short_id me);
  short_ids = λ i j d a b. absurd (omega arith);
  listens = λ i j d a b. absurd (omega arith);
  listen_texts = λ i j d a b. absurd (omega arith);
}

peers_at_found : (me : List ℕ) (folders : List FolderConfig) (document : Members) (peers : List PeerConfig) → peers_at me folders document ≡ Ok peers → ArePeers me (length folders) peers
peers_at_found me folders document peers h =
    let (values, v, rest) = both (tables_of PeerKey (get_member (key_name PeerKey) document)) (peers_after me folders []) peers h in
    peers_found me folders [] values peers rest (no_peers me (length folders))

-- the configuration of a document follows the rules
pub config_found : (document : Members) (config : Config) → config_of document ≡ Ok config → IsConsistent config
config_found document config h =
    let (device, d, h1) = both (device_at document Node) _ config h in
    let (name, n, h2) = both (text_at document Node Name) _ config h1 in
    let (state, s, h3) = both (path_at document Node State) _ config h2 in
    let (status, t, h4) = both (optional_path_at document Node Status) _ config h3 in
    let (folders, f, h5) = both (folders_at document) _ config h4 in
    let (peers, p, h6) = both (peers_at device folders document) _ config h5 in
    let made : Config = record { device = device; name = name; state = state; status = status; folders = folders; peers = peers } in
    let same : made ≡ config = cc h6 in
    subst IsConsistent same (folders_at_found document folders f, peers_at_found device folders document peers p)
