use Rattle.std.proofs.Common.{◌+◌, Some, refl, sym, ap, ◌∙◌, arith}
use Rattle.std.specs.Prelude.{Option, filter, option_copied}
use Rattle.sync_record.specs.Records.{Name}
use Rattle.folder_core.specs.Reads.{is_after}
use Rattle.folder_index.specs.declared.group.Group.{Group}
use Rattle.folder_index.specs.Chunks.{groups_in}
use Rattle.folder_index.proofs.Chunked.{later_all, later_at, later_gap, place_fits, place_small}
use Rattle.folder_index.proofs.chunks.Chunks.start_after.Goals as goal

pub returns-in_default-clause-after : goal.returns-in_default-clause-after
returns-in_default-clause-after c =
    later_all c.args.self.now ∙ ap (λ (o : Option Name). filter (λ (h : Name × Group). is_after o h.0) (groups_in c.args.self.now)) (sym (ap option_copied c.in_default.is))

pub overflow_add-result : goal.overflow_add-result
overflow_add-result c = (let small = place_small c.as_str.result.now c.args.self.now c.in-Ok.spot c.in-Ok.ensures in omega arith)

pub returns-in-Ok-clause-fits : goal.returns-in-Ok-clause-fits
returns-in-Ok-clause-fits c = place_fits c.as_str.result.now c.args.self.now c.in-Ok.spot c.in-Ok.ensures

pub returns-in-Ok-clause-after : goal.returns-in-Ok-clause-after
returns-in-Ok-clause-after c =
    let cs = c.args.self.now in
    let s = c.in-Ok.spot in
    later_at c.as_str.result.now cs s (s.place + 1) refl c.requires.ordered c.in-Ok.ensures
    ∙ ap (λ (o : Option Name). filter (λ (h : Name × Group). is_after o h.0) (groups_in cs)) (ap Some c.as_str.ensures.value ∙ sym (ap option_copied c.in-Some.is))

pub returns-in-Err-clause-after : goal.returns-in-Err-clause-after
returns-in-Err-clause-after c =
    let cs = c.args.self.now in
    later_gap c.as_str.result.now cs c.in-Err.spot c.in-Err.ensures
    ∙ ap (λ (o : Option Name). filter (λ (h : Name × Group). is_after o h.0) (groups_in cs)) (ap Some c.as_str.ensures.value ∙ sym (ap option_copied c.in-Some.is))
