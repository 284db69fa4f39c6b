use Rattle.std.proofs.Common.{◌∙◌, List, map, sym, ap, subst}
use Rattle.std.specs.Prelude.{option_copied}
use Rattle.std.proofs.lemmas.Result.{err_from_is_err_and}
use Rattle.sync_record.specs.Records.{FileRecord}
use Rattle.node_replay.specs.Recovered.{IsRecovered, folder_stored}
use Rattle.node_replay.specs.Told.{lasts_told, number_after}
use Rattle.node_replay.proofs.Clearing.{all-clear, of-parts, of-told}
use Rattle.node_replay.proofs.recovering.recovered_from.Goals as goal

pub returns-then-index_id-eq0-clause-err : goal.returns-then-index_id-eq0-clause-err
returns-then-index_id-eq0-clause-err c = λ ne.
    ne (ap (λ n. number_after n (map (λ p. p.now) c.args.parts.now)) (sym c.number_stored.ensures) ∙ sym c.number_after-index_id.ensures ∙ c.if-index_id-eq0.true)

pub returns-in_err-told-clause-err : goal.returns-in_err-told-clause-err
returns-in_err-told-clause-err c =
    let p = err_from_is_err_and c.from_residual.result c.from_residual.ensures.1 in
    rw (p.1, p.2) (of-parts c.args.me (option_copied c.args.stored) (map (λ p. p.now) c.args.parts.now) _ c.in_err-told.ensures.err)

pub returns-in_err-folder-clause-err : goal.returns-in_err-folder-clause-err
returns-in_err-folder-clause-err c =
    let p = err_from_is_err_and c.from_residual-in_err-folder.result c.from_residual-in_err-folder.ensures.1 in
    let st = option_copied c.args.stored in
    let ps = map (λ p. p.now) c.args.parts.now in
    rw (p.1, p.2) (of-told c.args.me st ps c.in_ok-told.told.records.items c.in_ok-told.ensures.records _ c.in_err-folder.ensures.err)

pub returns-in_err-peers-clause-err : goal.returns-in_err-peers-clause-err
returns-in_err-peers-clause-err c =
    let p = err_from_is_err_and c.from_residual-in_err-peers.result c.from_residual-in_err-peers.ensures.1 in
    rw (p.1, p.2) (λ x. x)

pub returns-clause-is : goal.returns-clause-is
returns-clause-is c =
    let st = option_copied c.args.stored in
    let ps = map (λ p. p.now) c.args.parts.now in
    record {
      index_id = c.number_after-index_id.ensures ∙ ap (λ n. number_after n ps) c.number_stored.ensures;
      folder = subst (λ (rs : List FileRecord). IsRecovered rs (lasts_told ps) (folder_stored c.args.me st) c.in_ok-folder.folder) c.in_ok-told.ensures.records c.in_ok-folder.ensures.is;
      peers = c.in_ok-peers.ensures;
      plans = c.from_vec.ensures ∙ c.in_ok-told.ensures.plans;
    }

pub returns-clause-clear : goal.returns-clause-clear
returns-clause-clear c =
    let st = option_copied c.args.stored in
    let ps = map (λ p. p.now) c.args.parts.now in
    all-clear c.args.me st ps c.in_ok-told.ensures.safe c.in_ok-told.ensures.pullable
    (λ zero. c.if-index_id-eq0.false (c.number_after-index_id.ensures ∙ ap (λ n. number_after n ps) c.number_stored.ensures ∙ zero))
    c.in_ok-folder.folder c.in_ok-folder.ensures.folder
    (subst (λ (rs : List FileRecord). IsRecovered rs (lasts_told ps) (folder_stored c.args.me st) c.in_ok-folder.folder) c.in_ok-told.ensures.records c.in_ok-folder.ensures.is)
