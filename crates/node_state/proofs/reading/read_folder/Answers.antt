use Rattle.std.proofs.Common.{List, ap, sym, subst, ◌∙◌}
use Rattle.std.proofs.lemmas.Result.{err_from_is_err_and}
use Rattle.bep_messages.specs.Tables.{Values}
use Rattle.folder_core.specs.Restores.{MayRestore, restored_folder}
use Rattle.sync_record.specs.Devices.{Identity}
use Rattle.sync_record.specs.Records.{FileRecord}
use Rattle.node_state.specs.declared.front.Front.{Front}
use Rattle.node_state.specs.Reading.{entry_pairs, front_table}
use Rattle.node_state.proofs.Parts.{good-of, last-told, no-fault, parts-of, parts-stored}
use Rattle.node_state.proofs.reading.read_folder.Goals as goal

pub returns-in_err-front-clause-err : goal.returns-in_err-front-clause-err
returns-in_err-front-clause-err c =
    let p = err_from_is_err_and c.from_residual.result c.from_residual.ensures.1 in
    rw (p.1, p.2) (λ ne good. c.in_err-front.ensures.err ne (parts-of c.args.me c.args.edition c.args.source.now good).front)

pub returns-in_err-entries-clause-err : goal.returns-in_err-entries-clause-err
returns-in_err-entries-clause-err c =
    let p = err_from_is_err_and c.from_residual-in_err-entries.result c.from_residual-in_err-entries.ensures.1 in
    rw (p.1, p.2) (λ ne good.
    c.in_err-entries.ensures.err ne (no-fault c.args.me c.args.edition c.args.source.now good) (parts-of c.args.me c.args.edition c.args.source.now good).entries)

pub returns-in_err-peers-clause-err : goal.returns-in_err-peers-clause-err
returns-in_err-peers-clause-err c =
    let p = err_from_is_err_and c.from_residual-in_err-peers.result c.from_residual-in_err-peers.ensures.1 in
    rw (p.1, p.2) (λ ne good.
    let parts = parts-of c.args.me c.args.edition c.args.source.now good in
    c.in_err-peers.ensures.err ne (no-fault c.args.me c.args.edition c.args.source.now good) parts.peers parts.once)

pub returns-in_err-folder-clause-err : goal.returns-in_err-folder-clause-err
returns-in_err-folder-clause-err c =
    let p = err_from_is_err_and c.from_residual-in_err-folder.result c.from_residual-in_err-folder.ensures.1 in
    rw (p.1, p.2) (λ ne good.
    let parts = parts-of c.args.me c.args.edition c.args.source.now good in
    let f : Front = c.in_ok-front.front in
    let last = last-told c.args.me c.args.edition c.args.source.now f c.in_ok-front.ensures.ok.1 in
    c.in_err-folder.ensures.err ne
    (subst (λ (es : List (Identity × FileRecord)). MayRestore c.args.me es f.last) (sym c.in_ok-entries.ensures.value)
    (subst (MayRestore c.args.me (entry_pairs c.args.source.now)) (sym last) parts.restores)))

pub returns-clause-good : goal.returns-clause-good
returns-clause-good c =
    let f : Front = c.in_ok-front.front in
    let last = last-told c.args.me c.args.edition c.args.source.now f c.in_ok-front.ensures.ok.1 in
    good-of c.args.me c.args.edition c.args.source.now (record {
      front = c.in_ok-front.ensures.ok.0;
      index_id = λ z. c.if-front-eq0.false (ap (λ (v : Values front_table). v.1.0) c.in_ok-front.ensures.ok.1 ∙ z);
      entries = c.in_ok-entries.ensures.good;
      restores = subst (MayRestore c.args.me (entry_pairs c.args.source.now)) last
          (subst (λ (es : List (Identity × FileRecord)). MayRestore c.args.me es f.last) c.in_ok-entries.ensures.value c.in_ok-folder.ensures.allowed);
      peers = c.in_ok-peers.ensures.good;
      once = c.in_ok-peers.ensures.once;
    })

pub returns-clause-value : goal.returns-clause-value
returns-clause-value c =
    let f : Front = c.in_ok-front.front in
    parts-stored c.args.me c.args.edition c.args.source.now f c.in_ok-front.ensures.ok.1 _
    (c.in_ok-folder.ensures.value ∙ ap (λ (es : List (Identity × FileRecord)). restored_folder c.args.me es f.last) c.in_ok-entries.ensures.value) _ c.in_ok-peers.ensures.value
