use Rattle.std.proofs.Common.{◌≡◌, ℤ, pos, to_z, of_z, w32, refl, sym, ap, ◌∙◌, arith, rules}
use Rattle.std.specs.Prelude.{◌≢◌, negsuc}
use Rattle.std.proofs.lemmas.Int.{ints}
use Rattle.bep_messages.specs.Protocol.{cluster_config_table, index_table, index_update_table, request_table, response_table, download_progress_table, ping_table, close_table}
use Rattle.bep_messages.specs.Structs.{cluster_config, index, index_update, request, response, download_progress, ping, close}
use Rattle.bep_frames.specs.Carried.{IsUnknown}
use Rattle.bep_frames.specs.declared.frame.Frame.TheVariants.{Unknown}
use Rattle.bep_frames.specs.declared.frame.Message.TheVariants.{ClusterConfig, Index, IndexUpdate, Request, Response, DownloadProgress, Ping, Close}
use Rattle.bep_frames.proofs.Carries.{unknown_found, carried_err, carried_ok, carried_memory}
use Rattle.bep_frames.proofs.Pieces.{found}
use Rattle.bep_frames.proofs.carried.carried.Goals as goal
use Rattle.bep_frames.proofs.carried.carried.Goals.{in-0+in_ok-body-in-0, in-1+in_ok-body-in-1, in-2+in_ok-body-in-2, in-3+in_ok-body-in-3, in-4+in_ok-body-in-4, in-5+in_ok-body-in-5, in-6+in_ok-body-in-6, in-7+in_ok-body-in-7}

pub returns-in_err-body-in-0-clause-carried : goal.returns-in_err-body-in-0-clause-carried
returns-in_err-body-in-0-clause-carried c = carried_err cluster_config_table cluster_config ClusterConfig c.args.kind 0 c.args.bytes.now _ _ (search rules) refl c.in_err-body-in-0.ensures.read c.from_residual.ensures.1

pub returns-in_err-body-in-0-clause-memory : goal.returns-in_err-body-in-0-clause-memory
returns-in_err-body-in-0-clause-memory c = carried_memory cluster_config_table cluster_config ClusterConfig c.args.kind 0 c.args.bytes.now _ _ (search rules) refl c.in_err-body-in-0.ensures.memory c.from_residual.ensures.1

pub returns-in_err-body-in-1-clause-carried : goal.returns-in_err-body-in-1-clause-carried
returns-in_err-body-in-1-clause-carried c = carried_err index_table index Index c.args.kind 1 c.args.bytes.now _ _ (search rules) refl c.in_err-body-in-1.ensures.read c.from_residual-in_err-body-in-1.ensures.1

pub returns-in_err-body-in-1-clause-memory : goal.returns-in_err-body-in-1-clause-memory
returns-in_err-body-in-1-clause-memory c = carried_memory index_table index Index c.args.kind 1 c.args.bytes.now _ _ (search rules) refl c.in_err-body-in-1.ensures.memory c.from_residual-in_err-body-in-1.ensures.1

pub returns-in_err-body-in-2-clause-carried : goal.returns-in_err-body-in-2-clause-carried
returns-in_err-body-in-2-clause-carried c = carried_err index_update_table index_update IndexUpdate c.args.kind 2 c.args.bytes.now _ _ (search rules) refl c.in_err-body-in-2.ensures.read c.from_residual-in_err-body-in-2.ensures.1

pub returns-in_err-body-in-2-clause-memory : goal.returns-in_err-body-in-2-clause-memory
returns-in_err-body-in-2-clause-memory c = carried_memory index_update_table index_update IndexUpdate c.args.kind 2 c.args.bytes.now _ _ (search rules) refl c.in_err-body-in-2.ensures.memory c.from_residual-in_err-body-in-2.ensures.1

pub returns-in_err-body-in-3-clause-carried : goal.returns-in_err-body-in-3-clause-carried
returns-in_err-body-in-3-clause-carried c = carried_err request_table request Request c.args.kind 3 c.args.bytes.now _ _ (search rules) refl c.in_err-body-in-3.ensures.read c.from_residual-in_err-body-in-3.ensures.1

pub returns-in_err-body-in-3-clause-memory : goal.returns-in_err-body-in-3-clause-memory
returns-in_err-body-in-3-clause-memory c = carried_memory request_table request Request c.args.kind 3 c.args.bytes.now _ _ (search rules) refl c.in_err-body-in-3.ensures.memory c.from_residual-in_err-body-in-3.ensures.1

pub returns-in_err-body-in-4-clause-carried : goal.returns-in_err-body-in-4-clause-carried
returns-in_err-body-in-4-clause-carried c = carried_err response_table response Response c.args.kind 4 c.args.bytes.now _ _ (search rules) refl c.in_err-body-in-4.ensures.read c.from_residual-in_err-body-in-4.ensures.1

pub returns-in_err-body-in-4-clause-memory : goal.returns-in_err-body-in-4-clause-memory
returns-in_err-body-in-4-clause-memory c = carried_memory response_table response Response c.args.kind 4 c.args.bytes.now _ _ (search rules) refl c.in_err-body-in-4.ensures.memory c.from_residual-in_err-body-in-4.ensures.1

pub returns-in_err-body-in-5-clause-carried : goal.returns-in_err-body-in-5-clause-carried
returns-in_err-body-in-5-clause-carried c = carried_err download_progress_table download_progress DownloadProgress c.args.kind 5 c.args.bytes.now _ _ (search rules) refl c.in_err-body-in-5.ensures.read c.from_residual-in_err-body-in-5.ensures.1

pub returns-in_err-body-in-5-clause-memory : goal.returns-in_err-body-in-5-clause-memory
returns-in_err-body-in-5-clause-memory c = carried_memory download_progress_table download_progress DownloadProgress c.args.kind 5 c.args.bytes.now _ _ (search rules) refl c.in_err-body-in-5.ensures.memory c.from_residual-in_err-body-in-5.ensures.1

pub returns-in_err-body-in-6-clause-carried : goal.returns-in_err-body-in-6-clause-carried
returns-in_err-body-in-6-clause-carried c = carried_err ping_table ping Ping c.args.kind 6 c.args.bytes.now _ _ (search rules) refl c.in_err-body-in-6.ensures.read c.from_residual-in_err-body-in-6.ensures.1

pub returns-in_err-body-in-6-clause-memory : goal.returns-in_err-body-in-6-clause-memory
returns-in_err-body-in-6-clause-memory c = carried_memory ping_table ping Ping c.args.kind 6 c.args.bytes.now _ _ (search rules) refl c.in_err-body-in-6.ensures.memory c.from_residual-in_err-body-in-6.ensures.1

pub returns-in_err-body-in-7-clause-carried : goal.returns-in_err-body-in-7-clause-carried
returns-in_err-body-in-7-clause-carried c = carried_err close_table close Close c.args.kind 7 c.args.bytes.now _ _ (search rules) refl c.in_err-body-in-7.ensures.read c.from_residual-in_err-body-in-7.ensures.1

pub returns-in_err-body-in-7-clause-memory : goal.returns-in_err-body-in-7-clause-memory
returns-in_err-body-in-7-clause-memory c = carried_memory close_table close Close c.args.kind 7 c.args.bytes.now _ _ (search rules) refl c.in_err-body-in-7.ensures.memory c.from_residual-in_err-body-in-7.ensures.1

-- a type that is none of these
other_kind : (kind : ℤ) → kind ≢ pos 0 → kind ≢ pos 1 → kind ≢ pos 2 → kind ≢ pos 3 → kind ≢ pos 4 → kind ≢ pos 5 → kind ≢ pos 6 → kind ≢ pos 7 → IsUnknown kind
other_kind (negsuc n) h0 h1 h2 h3 h4 h5 h6 h7 = tt
other_kind (pos n) h0 h1 h2 h3 h4 h5 h6 h7 = omega (arith, ints)

pub returns-in_default-clause-carried : goal.returns-in_default-clause-carried
returns-in_default-clause-carried c ne =
    let back : to_z w32 (of_z w32 c.args.kind) ≡ c.args.kind = search rules in
    ap (λ (z : ℤ). found (Unknown z)) back ∙ sym (unknown_found c.args.kind c.args.bytes.now (other_kind c.args.kind (search rules) (search rules) (search rules) (search rules) (search rules) (search rules) (search rules) (search rules)))

pub returns-clause-carried : goal.returns-clause-carried
returns-clause-carried c ne =
    elim c.match-kind.branch [
      | in-0+in_ok-body-in-0 w ↦ carried_ok cluster_config_table cluster_config ClusterConfig c.args.kind 0 c.args.bytes.now _ _ (search rules) refl w.in_ok-body-in-0.ensures.read w.result-is
      | in-1+in_ok-body-in-1 w ↦ carried_ok index_table index Index c.args.kind 1 c.args.bytes.now _ _ (search rules) refl w.in_ok-body-in-1.ensures.read w.result-is
      | in-2+in_ok-body-in-2 w ↦ carried_ok index_update_table index_update IndexUpdate c.args.kind 2 c.args.bytes.now _ _ (search rules) refl w.in_ok-body-in-2.ensures.read w.result-is
      | in-3+in_ok-body-in-3 w ↦ carried_ok request_table request Request c.args.kind 3 c.args.bytes.now _ _ (search rules) refl w.in_ok-body-in-3.ensures.read w.result-is
      | in-4+in_ok-body-in-4 w ↦ carried_ok response_table response Response c.args.kind 4 c.args.bytes.now _ _ (search rules) refl w.in_ok-body-in-4.ensures.read w.result-is
      | in-5+in_ok-body-in-5 w ↦ carried_ok download_progress_table download_progress DownloadProgress c.args.kind 5 c.args.bytes.now _ _ (search rules) refl w.in_ok-body-in-5.ensures.read w.result-is
      | in-6+in_ok-body-in-6 w ↦ carried_ok ping_table ping Ping c.args.kind 6 c.args.bytes.now _ _ (search rules) refl w.in_ok-body-in-6.ensures.read w.result-is
      | in-7+in_ok-body-in-7 w ↦ carried_ok close_table close Close c.args.kind 7 c.args.bytes.now _ _ (search rules) refl w.in_ok-body-in-7.ensures.read w.result-is
    ]
