-- The local records that were put last, which wait to be filed.
use Rattle.std.specs.Prelude.{◌≡◌, ◌<◌, ℕ, Bool, List, [], ◌∷◌, Some, ◌==◌, filter, fold, not, refl}
use Rattle.std.specs.Coded.{Coded, code_by, coded_list, coded_ℕ, coded×}
use Rattle.std.specs.FinMap.{get, insert}
use Rattle.sync_record.specs.Records.{FileRecord}
use Rattle.folder_core.specs.Codes.{coded_record}
use Rattle.folder_index.specs.Sequences.{Sequenced}

-- records, and for how many more there is to be room
pub record Waiting : Type 0 where
  pub records : List FileRecord
  pub promised : ℕ

abbrev pub coded_waiting : Coded Waiting
coded_waiting =
    code_by (List FileRecord × ℕ) (coded× (coded_list coded_record) coded_ℕ)
    (λ w. (w.records, w.promised)) (λ p. record { records = p.0; promised = p.1 }) (λ _. refl)

-- nothing waits, and no room is promised
abbrev pub none_waiting : Waiting
none_waiting = record { records = []; promised = 0 }

-- the record is of the sequence
abbrev pub is_at : ℕ → FileRecord → Bool
is_at q r = r.sequence == q

-- without the record of a sequence
abbrev pub without_sequence : ℕ → List FileRecord → List FileRecord
without_sequence q rs = filter (λ r. not (is_at q r)) rs

-- the records of both, by sequence
abbrev pub with_latest : List FileRecord → Sequenced → Sequenced
with_latest rs m = fold (λ m r. insert m r.sequence r) m rs

-- each has a greater sequence
abbrev pub AreAbove : ℕ → List FileRecord → Type 0
AreAbove q [] = Unit {0}
AreAbove q (r ∷ rs) = (q < r.sequence) × AreAbove q rs

-- their sequences rise
abbrev pub AreRising : List FileRecord → Type 0
AreRising [] = Unit {0}
AreRising (r ∷ rs) = AreAbove r.sequence rs × AreRising rs

-- What holds of the records that were put last: their sequences rise, and are greater than those that are filed.
pub record AreLatest (filed : Sequenced) (latest : List FileRecord) : Type 0 where
  pub rises : AreRising latest
  pub above : (q : ℕ) (r : FileRecord) → get filed q ≡ Some r → AreAbove q latest
