-- Preference of announced records, as proofs speak of it.
use Rattle.std.specs.Prelude.{Bool}
use Rattle.sync_record.specs.Preference as records
use Rattle.folder_core.specs.Announced.{KeyedRecord, by_device}

abbrev pub is_preferred : KeyedRecord → KeyedRecord → Bool
is_preferred e f = records.is_preferred (by_device e) (by_device f)
