use Rattle.std.proofs.Common.{◌≡◌, ap, List, length, map, ℤ, ℕ, subst}
use Rattle.std.specs.Prelude.{filter}
use Rattle.std.specs.List.{AllByRecursion}
use Rattle.bep_messages.specs.Forms.{form, list_form, scalar_form, Fits, IsShort, ScalarFits}
use Rattle.bep_messages.specs.Tables.{Int64, Values}
use Rattle.bep_messages.proofs.Written.{adds_none, ◌then◌}
use Rattle.sync_record.specs.Devices.{Identity}
use Rattle.node_state.specs.Peers.{is_kept}
use Rattle.node_state.specs.Tables.{entry_table, peer_table}
use Rattle.node_state.specs.Written.{peer_values}
use Rattle.node_state.proofs.Folders.{adds-same, last-back, records-back, values-are}
use Rattle.node_state.proofs.writing.write_fields.Goals as goal

pub returns-clause-ok : goal.returns-clause-ok
returns-clause-ok c =
    c.in_ok-words.ensures.ok then c.in_ok-uint64.ensures.ok
    then adds-same (ap (λ (z : ℤ). scalar_form 3 Int64 z) (last-back c.args.folder.now.folder.last c.last_of.result c.last_of.ensures.value c.last_of.ensures.fits)) c.in_ok-int64.ensures.ok
    then adds-same (ap (λ (vs : List (Values entry_table)). list_form 4 (form entry_table) vs) (values-are c.records.result.now c.args.folder.now.folder c.records.ensures)) c.in_ok-write_entries.ensures.ok
    then adds-same (ap (λ (ps : List (Identity × ℕ)). list_form 5 (form peer_table) (map peer_values (filter is_kept ps))) c.as_slice.ensures) c.in_ok-write_peers.ensures.ok
    then adds_none _

pub returns-clause-fits : goal.returns-clause-fits
returns-clause-fits c = (
  c.in_ok-words.ensures.fits,
  (
    c.in_ok-uint64.ensures.fits,
    (
      subst (λ (z : ℤ). ScalarFits Int64 z) (last-back c.args.folder.now.folder.last c.last_of.result c.last_of.ensures.value c.last_of.ensures.fits) c.in_ok-int64.ensures.fits,
      (
        subst (AllByRecursion (λ v. Fits entry_table v × IsShort (form entry_table v))) (values-are c.records.result.now c.args.folder.now.folder c.records.ensures) c.in_ok-write_entries.ensures.fits,
        (
          subst (λ (ps : List (Identity × ℕ)). AllByRecursion (λ v. Fits peer_table v × IsShort (form peer_table v)) (map peer_values (filter is_kept ps))) c.as_slice.ensures c.in_ok-write_peers.ensures.fits,
          tt,
        ),
      ),
    ),
  ),
)

pub returns-clause-back : goal.returns-clause-back
returns-clause-back c = record {
  folder = c.last_of.ensures.folder;
  records = records-back c.records.result.now c.args.folder.now.folder c.records.ensures c.in_ok-write_entries.ensures.back;
  peers = subst (λ (ps : List (Identity × ℕ)). AllByRecursion (λ p. length p.0 ≡ 32) (filter is_kept ps)) c.as_slice.ensures c.in_ok-write_peers.ensures.back;
}
