use Rattle.std.proofs.Common.{◌≡◌, ℕ, false, sym, ap, ◌∙◌}
use Rattle.index_sender.specs.Pages.{Progress, last_sequence}
use Rattle.index_sender.proofs.PageRecords.{last-read, none-read}
use Rattle.index_sender.proofs.sender.IndexSender.give.Goals as goal
use Rattle.index_sender.proofs.sender.IndexSender.give.Goals.{in-Some, in-None}

pub returns-clause-after : goal.returns-clause-after
returns-clause-after c =
    let at : c.match-last.cursor ≡ last_sequence c.args.self.now.cursor c.args.records = elim c.match-last.branch [
      | in-Some w ↦ w.cursor-is ∙ w.sequence-cursor.ensures.value
          ∙ sym (last-read c.args.self.now.cursor c.as_slice-2.result.now w.in-Some.last.now w.in-Some.ensures.value)
          ∙ ap (last_sequence c.args.self.now.cursor) c.as_slice-2.ensures
      | in-None w ↦ w.cursor-is ∙ ap (λ (p : Progress). p.cursor) c.self.view_is
          ∙ sym (none-read c.args.self.now.cursor c.as_slice-2.result.now w.in-None.ensures.value)
          ∙ ap (last_sequence c.args.self.now.cursor) c.as_slice-2.ensures
    ] in
    let made : ℕ → Progress = λ k. record { cursor = k; owes_index = false } in
    ap made at
