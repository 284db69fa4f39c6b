use Rattle.std.proofs.Common.{rules, ◌≡◌, ℕ, List, ap, subst, sym, ◌∙◌}
use Rattle.folder_calls.specs.Histories.{state_after}
use Rattle.folder_calls.specs.Shared.{CallerView, now}
use Rattle.folder_core.specs.Reads.{known}
use Rattle.folder_core.specs.States.{FolderState}
use Rattle.index_sender.specs.Pages.{sending_from}
use Rattle.peer_conn.specs.Configs.{start_in}
use Rattle.sync_record.specs.Devices.{Identity}
use Rattle.peer_conn.proofs.indexer.sender_of.Goals as goal

pub returns-clause-begins : goal.returns-clause-begins
returns-clause-begins g c =
    let old = g.W.FolderCalls.view c.args.folder.now.calls in
    let new = g.W.FolderCalls.view c.known-last.new.self in
    let read = c.known-last.ensures.reads in
    let id = c.me-me.result in
    let index = c.args.folder.now.index_id in
    let config = c.args.config.now in
    let me : new.opening.me ≡ id = ap (λ (v : CallerView). v.opening.me) read.sees.same ∙ sym c.me-me.ensures.me in
    let last = subst (λ (s : FolderState). c.known-last.result.value ≡ known (state_after s new.seen) id) (sym (ap (λ (v : CallerView). v.opening) read.sees.same)) read.answer_is in
    let start = c.new.ensures ∙ ap sending_from (c.start_of-start.ensures
    ∙ ap (λ (folder : List ℕ). start_in config folder id index c.known-last.result.value) c.as_str-2.ensures
    ∙ ap (λ (k : ℕ). start_in config c.args.folder.now.id id index k) last) in
    (search rules, new, read.sees, subst (λ (m : Identity). c.new.result ≡ sending_from (start_in config c.args.folder.now.id m index (known (now new) m))) (sym me) start)
