-- Records by their sequences.
use Rattle.std.specs.Prelude.{◌≡◌, ℕ, true, false, List, [], ◌∷◌, ◌++◌, filter, length, nat_lt, sum_by}
use Rattle.std.specs.BTreeMap.{is_at}
use Rattle.std.specs.Coded.{Coded, coded_ℕ}
use Rattle.std.specs.FinMap as map
use Rattle.std.specs.List.Sorted.{IsStrictlySortedBy}
use Rattle.std.specs.Map.{keys_of, lookup}
use Rattle.std.specs.Ordering.{nat_cmp}
use Rattle.std.specs.Prelude.{Some}
use Rattle.sync_record.specs.Records.{FileRecord}
use Rattle.folder_core.specs.Codes.{coded_record}
use Rattle.folder_core.specs.Reads.{fits_page}

-- one record at most of a sequence
abbrev pub Sequenced : Type 0
Sequenced = map.FinMap nat_cmp FileRecord

abbrev pub coded_sequenced : Coded Sequenced
coded_sequenced = map.code coded_ℕ coded_record

-- What holds of the list of them: the sequences rise, and each record is under its own.
pub record AreSequenced (es : List (ℕ × FileRecord)) : Type 0 where
  pub rises : IsStrictlySortedBy nat_cmp (keys_of es)
  pub own : (q : ℕ) (r : FileRecord) → lookup (is_at (nat_cmp q)) es ≡ Some r → r.sequence ≡ q

-- how many blocks they have
abbrev pub blocks_in : List FileRecord → ℕ
blocks_in rs = sum_by (λ r. length r.blocks) rs

-- the record is put at the end of the page, which has so many blocks then
pub record IsAdded (limit : ℕ) (page : List FileRecord) (r : FileRecord) (new : List FileRecord) (total : ℕ) : Type 0 where
  pub items : new ≡ page ++ r ∷ []
  pub fits : fits_page limit new ≡ true
  pub counted : total ≡ blocks_in new

-- the record doesn't fit the page, which stays
pub record IsFull (limit : ℕ) (page : List FileRecord) (r : FileRecord) (new : List FileRecord) : Type 0 where
  pub stays : new ≡ page
  pub full : fits_page limit (page ++ r ∷ []) ≡ false

-- those of greater sequence
abbrev pub later_than : ℕ → List FileRecord → List FileRecord
later_than q rs = filter (λ r. nat_lt q r.sequence) rs
