use Rattle.std.proofs.Common.{◌≡◌, ◌∙◌, Err, ap, sym}
use Rattle.std.proofs.lemmas.Result.{err_from_is_err_and}
use Rattle.toml.specs.View.{table_view}
use Rattle.node_config.proofs.Reading.{fault_of_peers, no_fault_of_device}
use Rattle.node_config.specs.declared.fault.ConfigFault.TheVariants.{OutOfMemory}
use Rattle.node_config.proofs.document.read_document.Goals as goal

pub returns-in_err-peers-clause-value : goal.returns-in_err-peers-clause-value
returns-in_err-peers-clause-value c =
    let p = err_from_is_err_and c.from_residual-in_err-peers.result c.from_residual-in_err-peers.ensures.1 in
    let q = fault_of_peers (table_view c.args.document.now) c.in_ok-device.device c.in_ok-name.name c.in_ok-state.state c.in_ok-status.status c.in_ok-folders.folders c.as_slice.result.now c.in_err-peers.field-0.0 (sym c.in_ok-device.ensures) c.in_ok-name.ensures c.in_ok-state.ensures c.in_ok-status.ensures c.in_ok-folders.ensures c.as_slice.ensures c.in_err-peers.ensures in
    rw p.1 (rw p.2 q)

pub returns-in_err-device-clause-memory : goal.returns-in_err-device-clause-memory
returns-in_err-device-clause-memory c = λ out.
    let p = err_from_is_err_and c.from_residual.result c.from_residual.ensures.1 in
    let same : p.0 ≡ OutOfMemory = cc in
    absurd (no_fault_of_device (table_view c.args.document.now) (sym c.in_err-device.ensures ∙ ap Err (sym p.2 ∙ same)))
