use Rattle.std.proofs.Common.{◌≡◌, length, map, ap, sym, subst, ◌∙◌, rules}
use Rattle.std.specs.FinMap.{put}
use Rattle.std.specs.List.{AllWithin}
use Rattle.std.specs.declared.cmp.Ordering.TheVariants.{Equal, Greater}
use Rattle.sync_record.specs.Devices.{bytes_cmp}
use Rattle.bep_messages.proofs.Written.{on_err}
use Rattle.node_state.specs.Peers.{pair}
use Rattle.node_state.proofs.PeerMaps.{IsBefore, put-inserts, put-last, put-sets}
use Rattle.node_state.proofs.kept.put.Goals as goal

pub returns-in-Equal-clause-ok : goal.returns-in-Equal-clause-ok
returns-in-Equal-clause-ok c =
    let es = c.loop-at.kept.items in
    let y = c.index.result.now in
    let same : bytes_cmp y.device c.args.new.device ≡ Equal = search rules in
    put-sets c.args.new es c.loop-at.at y (search rules) c.loop-at.invariant.before c.index.ensures same
    ∙ ap (λ xs. put bytes_cmp c.args.new.device c.args.new.index_id (map pair xs)) c.loop-at.invariant.same

pub returns-in_err-insert-in-Greater-clause-err : goal.returns-in_err-insert-in-Greater-clause-err
returns-in_err-insert-in-Greater-clause-err c = on_err _ (c.in_err-insert-in-Greater.ensures.items ∙ c.loop-at.invariant.same)

pub returns-in-Greater-clause-ok : goal.returns-in-Greater-clause-ok
returns-in-Greater-clause-ok c =
    let es = c.loop-at.kept.items in
    let y = c.index.result.now in
    let next : bytes_cmp y.device c.args.new.device ≡ Greater = search rules in
    ap (map pair) c.in_ok-insert-in-Greater.ensures.items
    ∙ put-inserts c.args.new es c.loop-at.at y (search rules) c.loop-at.invariant.before c.index.ensures next
    ∙ ap (λ xs. put bytes_cmp c.args.new.device c.args.new.index_id (map pair xs)) c.loop-at.invariant.same

pub returns-in_err-push-clause-err : goal.returns-in_err-push-clause-err
returns-in_err-push-clause-err c = on_err _ (c.in_err-push.ensures.items ∙ c.loop-at.invariant.same)

pub returns-clause-ok : goal.returns-clause-ok
returns-clause-ok c =
    let es = c.loop-at.kept.items in
    let all : length es ≡ c.loop-at.at = search rules in
    ap (map pair) c.in_ok-push.ensures.items
    ∙ put-last c.args.new es (subst (AllWithin (IsBefore c.args.new) es 0) (sym all) c.loop-at.invariant.before)
    ∙ ap (λ xs. put bytes_cmp c.args.new.device c.args.new.index_id (map pair xs)) c.loop-at.invariant.same
