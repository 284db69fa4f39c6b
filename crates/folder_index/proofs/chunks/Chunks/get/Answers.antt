use Rattle.std.proofs.Common.{sym, ap, subst, ◌≡◌, ◌∙◌}
use Rattle.std.specs.Prelude.{Some, None}
use Rattle.std.specs.BTreeMap.{is_at}
use Rattle.std.specs.Map.{lookup}
use Rattle.sync_record.specs.Devices.{bytes_cmp}
use Rattle.folder_index.specs.Chunks.{groups_in}
use Rattle.folder_index.proofs.Chunked.{absent_at, found_at, group_read}
use Rattle.folder_index.proofs.chunks.Chunks.get.Goals as goal

pub returns-in-Ok : goal.returns-in-Ok
returns-in-Ok c =
    let cs = c.args.self.now in
    let n = c.as_str.result.now in
    let same = group_read n cs c.in-Ok.spot c.in-Ok.ensures c.index.result.now c.index-in-Ok.result.now c.index.ensures c.index-in-Ok.ensures in
    record { value = sym (subst (λ m. lookup (is_at (bytes_cmp m)) (groups_in cs) ≡ Some c.index-in-Ok.result.now) c.as_str.ensures.value (found_at n cs c.in-Ok.spot c.requires c.in-Ok.ensures ∙ ap Some same.1)) }

pub returns-in-Err : goal.returns-in-Err
returns-in-Err c =
    let cs = c.args.self.now in
    record { value = sym (subst (λ m. lookup (is_at (bytes_cmp m)) (groups_in cs) ≡ None) c.as_str.ensures.value (absent_at c.as_str.result.now cs c.in-Err.field-0 c.in-Err.ensures)) }
