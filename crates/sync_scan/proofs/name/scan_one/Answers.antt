use Rattle.std.proofs.Common.{rules, ◌∙◌, ap, refl, subst}
use Rattle.std.specs.Prelude.{IsTrue, option_map}
use Rattle.file_store.specs.Sequences.{Since, not_called}
use Rattle.sync_scan.specs.Looks.{IsTold, MayFindAt, ShownFirst, look_of}
use Rattle.sync_scan.proofs.RecordLemmas.{found-recordable}
use Rattle.sync_scan.proofs.ToldLemmas.{fails-memory}
use Rattle.sync_scan.proofs.ScanLemmas.{read-local, scans}
use Rattle.sync_scan.proofs.name.scan_one.Goals as goal

pub ask-requires : goal.ask-requires
ask-requires g c = found-recordable c.block_list_tiles.ensures (Since g.S.FileStore.gives c.args.store.now) c.args.name.now _ c.in_ok-look.look (c.in_ok-look.ensures.told c.args.store.now not_called)

pub returns-clause-scans : goal.returns-clause-scans
returns-clause-scans g c =
    let start = c.args.store.now in
    let tree = g.S.FileStore.tree start in
    let gives = g.S.FileStore.gives in
    let keeps = IsTrue g.S.FileStore.keeps in
    let n = c.args.name.now in
    let view = g.W.FolderCalls.view in
    let shown = g.G.Gate.shown c.args.scanning.now.gate.now g.row.S.Denot g.row.W.Denot in
    let old = view c.args.calls.now in
    let new = view c.local.new.self in
    let look = c.in_ok-look.look in
    let read = c.as_ref.ensures.value ∙ read-local old new n c.in_ok-local.field-0 c.in_ok-local.ensures.reads in
    scans _ _ n _ c.in_ok-local.ensures.reads _ c.args.scanning.now.moment (MayFindAt gives (ShownFirst shown view start) keeps tree n) look c.in_ok-ask.field-0 _
    (c.version_of-expected.ensures ∙ ap (option_map (λ r. r.version)) c.as_ref-2.ensures.value) (
      start,
      (refl, (c.local.new.self, c.show.ensures.shown, refl)),
      (
        subst (λ l. IsTold (Since gives start) n l look) read (c.in_ok-look.ensures.told start not_called),
        λ k. c.in_ok-look.ensures.there k ∙ ap (λ l. look_of l (tree.names n)) read,
      ),
    )
    c.in_ok-ask.ensures.asks

pub returns-in_err-local-clause-failed : goal.returns-in_err-local-clause-failed
returns-in_err-local-clause-failed g c = fails-memory g.S.FileStore.gives c.args.name.now c.from_residual.result (search rules)

pub returns-in_err-ask-clause-failed : goal.returns-in_err-ask-clause-failed
returns-in_err-ask-clause-failed g c = fails-memory g.S.FileStore.gives c.args.name.now c.from_residual-in_err-ask.result (search rules)

pub returns-in_err-local-clause-looks : goal.returns-in_err-local-clause-looks
returns-in_err-local-clause-looks g c = not_called
