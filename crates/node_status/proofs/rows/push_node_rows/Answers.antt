use Rattle.std.proofs.Common.{[], ◌∷◌, ◌++◌, codes, string_bytes}
use Rattle.node_status.specs.declared.rows.Mark.TheVariants.{Note}
use Rattle.node_status.specs.Rows.{memory_rows, title_row, words_row}
use Rattle.node_status.proofs.Steps.{both, last}
use Rattle.node_status.proofs.rows.push_node_rows.Goals as goal

pub returns : goal.returns
returns c =
    let status = c.args.status.now in
    let title = title_row status in
    let version = words_row Note (codes "bepd v" ++ string_bytes status.version) in
    let device = words_row Note (codes "device " ++ string_bytes status.device) in
    let second = rw c.as_str.ensures.value at c.in_ok-push_joined.ensures in
    let third = rw c.as_str-2.ensures.value at c.in_ok-push_joined-2.ensures in
    let two = both _ _ _ (title ∷ []) (version ∷ []) c.in_ok-push_title.ensures second in
    let three = both _ _ _ (title ∷ version ∷ []) (device ∷ []) two third in
    last c.push_memory_row.result _ _ _ (title ∷ version ∷ device ∷ []) (memory_rows status.memory) three c.push_memory_row.ensures
