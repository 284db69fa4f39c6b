use Rattle.std.proofs.Common.{subst}
use Rattle.std.specs.Prelude.{Some}
use Rattle.folder_core.specs.Reads.{LocalSince}
use Rattle.folder_calls.specs.Shared.{ReadsAt}
use Rattle.index_sender.specs.Pages.{Progress}
use Rattle.index_sender.proofs.PageRead.{goes-on, read-gives}
use Rattle.index_sender.proofs.sender.IndexSender.next_page.Goals as goal

pub returns-clause-keeps_up : goal.returns-clause-keeps_up
returns-clause-keeps_up g c = λ start pages point go keeps.
    let before = g.W.FolderCalls.view c.args.calls.now in
    let after = g.W.FolderCalls.view c.local_since.new.self in
    c.pages_keep_up.ensures.next start pages _ _ _ _ _ keeps (goes-on _ _ _ go c.in_ok-value.ensures.reads.sees) c.in_ok-value.ensures.reads.legal
    (read-gives before after c.args.self.now c.give.new.self c.give.result (record { at = c.in_ok-value.field-0.at; value = c.in_ok-value.field-0.value })
    (subst (λ (p : Progress). ReadsAt before (LocalSince p.cursor 1000) (Some (record { at = c.in_ok-value.field-0.at; value = c.in_ok-value.field-0.value })) after) c.self.view_is c.in_ok-value.ensures.reads)
    c.give.ensures.page c.give.ensures.after)
