use Rattle.std.proofs.Common.{◌≡◌, List, length, rules, ap, subst, ◌∙◌}
use Rattle.std.specs.Prelude.{Some, nat_lt}
use Rattle.sync_record.specs.Records.{FileRecord}
use Rattle.folder_core.specs.Reads.{LocalSince}
use Rattle.folder_calls.specs.declared.at.At.{At}
use Rattle.folder_calls.specs.Shared.{ReadsAt}
use Rattle.index_sender.specs.Pages.{Progress, after_page, page_of, up_to}
use Rattle.index_sender.proofs.PageRead.{goes-on, read-gives-kept}
use Rattle.index_sender.proofs.sender.IndexSender.next_kept_page.Goals as goal

pub returns-clause-keeps_up : goal.returns-clause-keeps_up
returns-clause-keeps_up g c = λ start pages point go keeps.
    let before = g.W.FolderCalls.view c.args.calls.now in
    let after = g.W.FolderCalls.view c.local_since.new.self in
    let all = c.in_ok-value.field-0.value in
    let reply : At (List FileRecord) = record { at = c.in_ok-value.field-0.at; value = all } in
    let given : c.from_vec.result ≡ up_to c.args.kept all = search rules in
    let waits : nat_lt c.count_up_to-count.result (length c.as_slice-2.result.now) ≡ nat_lt (length (up_to c.args.kept all)) (length all) = search rules in
    c.pages_keep_up.ensures.kept start c.args.kept pages _ _ _ _ _ _ keeps (goes-on _ _ _ go c.in_ok-value.ensures.reads.sees) c.in_ok-value.ensures.reads.legal
    (read-gives-kept before after c.args.kept c.args.self.now c.give-page.new.self c.give-page.result _ reply
    (subst (λ (p : Progress). ReadsAt before (LocalSince p.cursor 1000) (Some reply) after) c.self.view_is c.in_ok-value.ensures.reads)
    (c.give-page.ensures.page ∙ ap (page_of c.args.self.now.owes_index) given) waits (c.give-page.ensures.after ∙ ap (after_page c.args.self.now) given))
