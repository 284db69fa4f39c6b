use Rattle.std.proofs.Common.{sym, ap, ◌∙◌}
use Rattle.std.specs.FinMap.{get}
use Rattle.folder_core.specs.Announced.{key}
use Rattle.folder_index.specs.Indexes.{without_record}
use Rattle.folder_index.proofs.Indexed.{index_cleared, index_kept, moved, sequence_at}
use Rattle.folder_index.proofs.index.clear_own.Goals as goal
use Rattle.folder_index.proofs.index.clear_own.Goals.{in-Some, in_default}

pub returns-clause-index : goal.returns-clause-index
returns-clause-index c =
    let s = c.args.names.now in
    let n = c.args.name.now in
    let names = c.clear.ensures ∙ ap (λ d. without_record d n s) c.me-me.ensures in
    let there = c.get.ensures ∙ ap (λ d. get s.announced (key n d)) c.me-me.ensures in
    elim c.match-sequence_of.branch [
      | in-Some w ↦
          moved (sym names) (sym (w.local-is ∙ w.take_out.ensures))
          (index_cleared s c.args.local.now c.requires n w.in-Some.cleared (w.in-Some.ensures.sequence ∙ ap sequence_at there))
      | in_default w ↦
          moved (sym names) (sym w.local-is)
          (index_kept s c.args.local.now c.requires n (w.in_default.ensures.sequence ∙ ap sequence_at there))
    ]
