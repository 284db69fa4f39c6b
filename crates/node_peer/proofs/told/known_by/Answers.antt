use Rattle.std.proofs.Common.{◌≡◌, ◌∙◌, ap, rules, subst, sym}
use Rattle.std.specs.Prelude.{min}
use Rattle.folder_calls.specs.Histories.{state_after}
use Rattle.folder_calls.specs.Shared.{CallerView, now}
use Rattle.folder_core.specs.Reads.{known}
use Rattle.folder_core.specs.States.{FolderState}
use Rattle.sync_record.specs.Devices.{Identity}
use Rattle.node_peer.proofs.told.known_by.Goals as goal

-- src/told.rt:90:1
pub returns-clause-known : goal.returns-clause-known
returns-clause-known g c =
    let one = c.known-own.ensures.reads in
    let two = c.known-peers.ensures.reads in
    let point = g.W.FolderCalls.view c.known-own.new.self in
    let end = g.W.FolderCalls.view c.known-peers.new.self in
    let of_me = subst (λ (o : FolderState). c.known-own.result.value ≡ known (state_after o point.seen) c.me-me.result) (sym (ap (λ (v : CallerView). v.opening) one.sees.same)) one.answer_is in
    let own = subst (λ (d : Identity). c.known-own.result.value ≡ known (now point) d) c.me-me.ensures.me of_me in
    let peers = subst (λ (o : FolderState). c.known-peers.result.value ≡ known (state_after o end.seen) c.args.peer) (sym (ap (λ (v : CallerView). v.opening) two.sees.same)) two.answer_is in
    let least : c.min.result ≡ min c.known-own.result.value c.kept_up_to-kept.result = search rules in
    (c.kept_up_to-kept.result, c.kept_up_to-kept.ensures, point, one.sees, least ∙ ap (λ x. min x c.kept_up_to-kept.result) own, two.sees, peers)
