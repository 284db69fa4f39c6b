-- Announced records and open pulls that are written out as lists: `simp (listed)` computes what definitions make of them.
use Rattle.folder_core.proofs.Orders.{entries_listed, get_listed, insert_listed, retain_listed, remove_listed, keys_total, exact_keys, bytes_total, exact_names}
use Rattle.folder_core.specs.Announced.{KeyedRecord, Key, key_cmp}
use Rattle.folder_core.specs.States.{Pull}
use Rattle.folder_core.specs.Samples.{announced, pulls}
use Rattle.std.proofs.Common.{◌≡◌, Bool, true, List}
use Rattle.std.specs.FinMap.{get, insert, remove, entries, retain_keys, is_sorted, find, put, len-entries}
use Rattle.std.specs.FinMap.Entries.{where_key}
use Rattle.std.specs.Ordering.{eq_by_cmp}
use Rattle.std.specs.Prelude.{not}
use Rattle.sync_record.specs.Devices.{bytes_cmp}
use Rattle.sync_record.specs.Records.{Name, FileRecord}

pub entries-announced : (es : List KeyedRecord) → is_sorted key_cmp es ≡ true → entries (announced es) ≡ es
entries-announced es e = entries_listed key_cmp es e

pub get-announced : (es : List KeyedRecord) (k : Key) → is_sorted key_cmp es ≡ true → get (announced es) k ≡ find key_cmp k es
get-announced es k e = get_listed key_cmp es k e

pub insert-announced : (es : List KeyedRecord) (k : Key) (r : FileRecord) → is_sorted key_cmp es ≡ true → insert (announced es) k r ≡ announced (put key_cmp k r es)
insert-announced es k r e = insert_listed keys_total exact_keys es k r e

pub retain-announced : (es : List KeyedRecord) (p : Key → Bool) → is_sorted key_cmp es ≡ true → retain_keys (announced es) p ≡ announced (where_key key_cmp p es)
retain-announced es p e = retain_listed keys_total exact_keys es p e

pub entries-pulls : (es : List (Name × Pull)) → is_sorted bytes_cmp es ≡ true → entries (pulls es) ≡ es
entries-pulls es e = entries_listed bytes_cmp es e

pub get-pulls : (es : List (Name × Pull)) (n : Name) → is_sorted bytes_cmp es ≡ true → get (pulls es) n ≡ find bytes_cmp n es
get-pulls es n e = get_listed bytes_cmp es n e

pub insert-pulls : (es : List (Name × Pull)) (n : Name) (p : Pull) → is_sorted bytes_cmp es ≡ true → insert (pulls es) n p ≡ pulls (put bytes_cmp n p es)
insert-pulls es n p e = insert_listed bytes_total exact_names es n p e

pub remove-pulls : (es : List (Name × Pull)) (n : Name) → is_sorted bytes_cmp es ≡ true → remove (pulls es) n ≡ pulls (where_key bytes_cmp (λ x. not (eq_by_cmp bytes_cmp n x)) es)
remove-pulls es n e = remove_listed bytes_total exact_names es n e

pub ruleset listed = (entries-announced, get-announced, insert-announced, retain-announced, entries-pulls, get-pulls, insert-pulls, remove-pulls, len-entries)
