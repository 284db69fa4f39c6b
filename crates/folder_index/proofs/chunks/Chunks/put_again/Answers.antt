use Rattle.std.proofs.Common.{◌≡◌, None, sym, subst, ◌∙◌}
use Rattle.std.specs.BTreeMap.{is_at}
use Rattle.std.specs.Map.{lookup}
use Rattle.std.proofs.lemmas.Option.{none-some}
use Rattle.sync_record.specs.Devices.{bytes_cmp}
use Rattle.folder_index.specs.Chunks.{IsGap, groups_in}
use Rattle.folder_index.proofs.Chunked.{found_at, put_in_gap}
use Rattle.folder_index.proofs.Results.{on_ok}
use Rattle.folder_index.proofs.chunks.Chunks.put_again.Goals as goal

pub unreachable-requires : goal.unreachable-requires
unreachable-requires c =
    none-some _ (sym (sym (found_at c.name.result.now c.args.self.now c.in-Ok.field-0 c.requires.searchable c.in-Ok.ensures)
    ∙ subst (λ m. lookup (is_at (bytes_cmp m)) (groups_in c.args.self.now) ≡ None) (sym c.name.ensures) c.requires.absent))

pub put-requires-clause-inside : goal.put-requires-clause-inside
put-requires-clause-inside c = c.in-Err.ensures.inside c.requires.some

pub returns-clause-placed : goal.returns-clause-placed
returns-clause-placed c =
    on_ok c.put.result (λ placed. placed ∙ put_in_gap _ c.args.group c.args.self.now c.in-Err.gap (subst (λ n. IsGap n c.in-Err.gap c.args.self.now) c.name.ensures c.in-Err.ensures)) c.put.ensures.placed
