use Rattle.std.proofs.Common.{subst}
use Rattle.proof_layers.specs.Told.{Sends}
use Rattle.proof_layers.proofs.AloneLemmas.{AnswerLaws}
use Rattle.proof_layers.proofs.SendLemmas.{IndexLaws, on_ok_both, others-kept, told-after}
use Rattle.proof_layers.proofs.sending.send_index.Goals as goal

pub returns-clause-told : goal.returns-clause-told
returns-clause-told g c =
    let me = (g.A.FolderCalls.view c.args.from.now).opening.me in
    let from = g.A.FolderCalls.view c.send_pages.new.from in
    let old = g.B.FolderCalls.view c.args.to.now in
    let new = g.B.FolderCalls.view c.send_pages.new.to in
    let answers : AnswerLaws = record { accepted = c.answers_are_those_of_the_folder.ensures.accepted; adds = c.changes_are_asked_in_order.ensures.adds } in
    let laws : IndexLaws = record {
      index = c.peers_have_the_overlay.ensures.index;
      update = c.peers_have_the_overlay.ensures.update;
      full_others = c.index_full_replaces.ensures.others;
      more_others = c.index_more_adds.ensures.others;
    } in
    on_ok_both c.send_pages.result
    (λ legal sends alone n. told-after answers laws me c.args.start from old new (c.views_are_of_folders.ensures.folder from legal)
    (subst (λ d. Sends d c.args.start from old new) c.me-device.ensures.me sends) alone n)
    c.send_pages.ensures.legal c.send_pages.ensures.sends

pub returns-clause-others : goal.returns-clause-others
returns-clause-others g c =
    let me = (g.A.FolderCalls.view c.args.from.now).opening.me in
    let from = g.A.FolderCalls.view c.send_pages.new.from in
    let old = g.B.FolderCalls.view c.args.to.now in
    let new = g.B.FolderCalls.view c.send_pages.new.to in
    let answers : AnswerLaws = record { accepted = c.answers_are_those_of_the_folder.ensures.accepted; adds = c.changes_are_asked_in_order.ensures.adds } in
    let laws : IndexLaws = record {
      index = c.peers_have_the_overlay.ensures.index;
      update = c.peers_have_the_overlay.ensures.update;
      full_others = c.index_full_replaces.ensures.others;
      more_others = c.index_more_adds.ensures.others;
    } in
    on_ok_both c.send_pages.result
    (λ legal sends alone e n apart.
    let h = subst (λ d. Sends d c.args.start from old new) c.me-device.ensures.me sends in
    others-kept answers laws me e apart n h.pages old new h.asks alone)
    c.send_pages.ensures.legal c.send_pages.ensures.sends
