-- Lists of what is announced, in any order.
use Rattle.folder_core.proofs.Orders.{keys_total, exact_keys}
use Rattle.folder_core.proofs.ListTests.{get_in, in_get, Lists, in_contains, contains_in}
use Rattle.folder_core.specs.Announced.{Announced, KeyedRecord, Key}
use Rattle.std.specs.FinMap.{entries, get}
use Rattle.std.specs.Prelude.{◌≡◌, List, Some, Contains}
use Rattle.sync_record.specs.Records.{FileRecord}

pub lists-entries : (m : Announced) → Lists m (entries m)
lists-entries m = record { has = get_in keys_total exact_keys m; only = in_get keys_total exact_keys m }

-- the same by recursion
pub listed_so : (m : Announced) (es : List KeyedRecord) → ((k : Key) (r : FileRecord) → get m k ≡ Some r → Contains es (k, r)) → ((e : KeyedRecord) → Contains es e → get m e.0 ≡ Some e.1) → Lists m es
listed_so m es has only = record {
  has = λ k r g. contains_in es (k, r) (has k r g);
  only = λ e i. only e (in_contains es e i);
}
