-- What `PlainFolder` is restored from, and how it compares its open pulls.
use Rattle.std.specs.Prelude.{ℕ, ◌≢◌, ◌==◌, Bool, ◌&&◌, nat_le, List, AllPairs, IsTrue, is_some, option_map}
use Rattle.std.specs.Bool.{beq}
use Rattle.std.specs.Cmp.{IsEquivalence, and_equiv, on_equiv, nat_eq_equiv, bool_eq_equiv}
use Rattle.std.specs.Cmp.Lexicographic.{options_equiv}
use Rattle.std.specs.List.{list_all}
use Rattle.std.specs.Option.{option_eq}
use Rattle.folder_core.specs.declared.announcement.Announcement.{Announcement as Entry}
use Rattle.folder_core.specs.declared.plain.pull.OpenPull.{OpenPull}
use Rattle.sync_record.specs.Devices.{Identity}
use Rattle.sync_record.specs.Records.{FileRecord}
use Rattle.sync_record.specs.Same.{same_record, same_record_equiv}
use Rattle.sync_record.specs.Validity.{is_valid}
use Rattle.sync_version.specs.Computed.{same_version, same_version_equiv}
use Rattle.folder_core.specs.Plain.{filed}

-- the record with its device
abbrev pub given : Entry → Identity × FileRecord
given e = (e.device, e.record)

-- no two entries are of one key
abbrev pub IsOnce : List Entry → Type 0
IsOnce es = AllPairs (λ e f. (filed e).0 ≢ (filed f).0) es

-- the record is valid, and its sequence is from 1 to the last
abbrev pub is_numbered : ℕ → FileRecord → Bool
is_numbered last r = is_valid r && nat_le 1 r.sequence && nat_le r.sequence last

-- the records of these entries are valid, with distinct sequences from 1 to the last
pub record AreNumbered (last : ℕ) (es : List Entry) : Type 0 where
  pub each : IsTrue (list_all (λ e. is_numbered last e.record) es)
  pub distinct : AllPairs (λ e f. e.record.sequence ≢ f.record.sequence) es

-- whether the states have the same pull: of its base they have the version, and of what stands ready whether it does
abbrev pub same_pull : OpenPull → OpenPull → Bool
same_pull p q =
    (p.number == q.number)
    && option_eq same_version (option_map (λ r. r.version) p.base) (option_map (λ r. r.version) q.base)
    && same_record p.target q.target
    && beq (is_some p.ready) (is_some q.ready)

-- the test is reflexive, symmetric and transitive
pub same_pull_equiv : IsEquivalence same_pull
same_pull_equiv =
    and_equiv (and_equiv (and_equiv (on_equiv (λ p. p.number) nat_eq_equiv) (on_equiv (λ p. option_map (λ r. r.version) p.base) (options_equiv same_version_equiv)))
    (on_equiv (λ p. p.target) same_record_equiv)) (on_equiv (λ p. is_some p.ready) bool_eq_equiv)
