use Rattle.std.proofs.Common.{◌≡◌, ◌++◌, length, map}
use Rattle.std.specs.Prelude.{All, None}
use Rattle.sync_names.specs.Refusal.{refusal}
use Rattle.sync_record.specs.Infos.{record_of}
use Rattle.proof_layers.proofs.pages.records_of.Given as goal

-- the records so far, and those of the files that are left, are those of all; and the names that are left are safe
abbrev pub invariant-loop-info : goal.invariant-loop-info
invariant-loop-info l = record {
  all : l.records.items ++ map record_of l.files.items ≡ map record_of l.fn.files;
  safe : All (λ info. refusal info.name ≡ None) l.files.items;
}

abbrev pub decreases-loop-info : goal.decreases-loop-info
decreases-loop-info l = length l.files.items
