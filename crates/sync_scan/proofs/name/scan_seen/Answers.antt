use Rattle.std.proofs.Common.{rules, ◌∙◌, refl, sym, ap, subst}
use Rattle.std.specs.Prelude.{IsTrue, option_map}
use Rattle.sync_blocks.specs.Sizes.{block_size_for}
use Rattle.sync_scan.specs.Ahead.{HasBlocks, Knows, SightIs}
use Rattle.file_store.specs.Sequences.{Since}
use Rattle.sync_scan.specs.Looks.{IsRecordable, MayFindAt, ShownFirst, ShownSince, file_finding}
use Rattle.sync_scan.specs.Told.{Fails}
use Rattle.sync_scan.specs.declared.scanned.Look.TheVariants as look
use Rattle.sync_scan.specs.declared.scanned.Scanned.TheVariants as scanned
use Rattle.sync_scan.proofs.RecordLemmas.{found-recordable}
use Rattle.sync_scan.proofs.ScanLemmas.{sees-itself}
use Rattle.sync_scan.proofs.EachLemmas.{at-moved, one-weaker, shown-earlier, shown-first}
use Rattle.sync_scan.proofs.OnLemmas.{one-alone, one-memory, since-asked}
use Rattle.sync_scan.proofs.name.scan_seen.Goals as goal

pub ask-requires : goal.ask-requires
ask-requires g c =
    let gives = g.S.FileStore.gives in
    let n = c.args.name.now in
    let begun = c.requires.seen.1 in
    let shown = g.G.Gate.shown c.args.scanning.now.gate.now g.row.S.Denot g.row.W.Denot in
    let may = MayFindAt gives (ShownSince gives shown g.W.FolderCalls.view begun) (IsTrue g.S.FileStore.keeps) (g.S.FileStore.tree c.args.store.now) n in
    let first = c.requires.seen.0 in
    let old = g.W.FolderCalls.view c.args.calls.now in
    let part = c.in-Read.part in
    let h = subst (SightIs (HasBlocks c.args.turn.blocks.now) (Knows first old n may c.args.turn.seen.local) (Fails gives n)) c.in-Read.is c.requires.seen.2 in
    let is = c.in_ok-look-in-Read.ensures h.0 h.1 h.2 in
    subst IsRecordable (sym is) (found-recordable c.block_list_tiles.ensures (Since gives h.3.may_be.0) n _ (look.Found (file_finding (block_size_for part.size) h.0 part.modified)) h.3.may_be.2.0)

pub returns-in-Read-clause-scans : goal.returns-in-Read-clause-scans
returns-in-Read-clause-scans g c = λ first begun goes looks seen.
    let gives = g.S.FileStore.gives in
    let n = c.args.name.now in
    let shown = g.G.Gate.shown c.args.scanning.now.gate.now g.row.S.Denot g.row.W.Denot in
    let may = MayFindAt gives (ShownSince gives shown g.W.FolderCalls.view begun) (IsTrue g.S.FileStore.keeps) (g.S.FileStore.tree c.args.store.now) n in
    let old = g.W.FolderCalls.view c.args.calls.now in
    let part = c.in-Read.part in
    let h = subst (SightIs (HasBlocks c.args.turn.blocks.now) (Knows first old n may c.args.turn.seen.local) (Fails gives n)) c.in-Read.is seen in
    since-asked first old (g.W.FolderCalls.view c.ask.new.calls) n c.args.scanning.now.moment may c.args.turn.seen.local (look.Found (file_finding (block_size_for part.size) h.0 part.modified)) c.in_ok-look-in-Read.look _ c.in_ok-ask-in-Read.field-0
    h.3 (c.in_ok-look-in-Read.ensures h.0 h.1 h.2) (c.version_of-version.ensures ∙ ap (option_map (λ r. r.version)) c.as_ref.ensures.value) c.in_ok-ask-in-Read.ensures.asks

pub returns-in-Changing-clause-scans : goal.returns-in-Changing-clause-scans
returns-in-Changing-clause-scans g c = λ first begun goes looks seen.
    let gives = g.S.FileStore.gives in
    let n = c.args.name.now in
    let shown = g.G.Gate.shown c.args.scanning.now.gate.now g.row.S.Denot g.row.W.Denot in
    let may = MayFindAt gives (ShownSince gives shown g.W.FolderCalls.view begun) (IsTrue g.S.FileStore.keeps) (g.S.FileStore.tree c.args.store.now) n in
    let old = g.W.FolderCalls.view c.args.calls.now in
    let h = subst (SightIs (HasBlocks c.args.turn.blocks.now) (Knows first old n may c.args.turn.seen.local) (Fails gives n)) c.in-Changing.is seen in
    since-asked first old old n c.args.scanning.now.moment may c.args.turn.seen.local look.Changing look.Changing (option_map (λ r. r.version) c.args.turn.seen.local) scanned.Changing h refl refl refl

pub returns-in-Failed-clause-scans : goal.returns-in-Failed-clause-scans
returns-in-Failed-clause-scans g c = λ first begun goes looks seen.
    let gives = g.S.FileStore.gives in
    let n = c.args.name.now in
    let shown = g.G.Gate.shown c.args.scanning.now.gate.now g.row.S.Denot g.row.W.Denot in
    let may = MayFindAt gives (ShownSince gives shown g.W.FolderCalls.view begun) (IsTrue g.S.FileStore.keeps) (g.S.FileStore.tree c.args.store.now) n in
    let old = g.W.FolderCalls.view c.args.calls.now in
    let h = subst (SightIs (HasBlocks c.args.turn.blocks.now) (Knows first old n may c.args.turn.seen.local) (Fails gives n)) c.in-Failed.is seen in
    (sees-itself old, h)

pub returns-clause-scans : goal.returns-clause-scans
returns-clause-scans g c = λ first begun goes looks seen.
    let gives = g.S.FileStore.gives in
    let n = c.args.name.now in
    let shown = g.G.Gate.shown c.args.scanning.now.gate.now g.row.S.Denot g.row.W.Denot in
    let may = MayFindAt gives (ShownSince gives shown g.W.FolderCalls.view begun) (IsTrue g.S.FileStore.keeps) (g.S.FileStore.tree c.args.store.now) n in
    let keeps = IsTrue g.S.FileStore.keeps in
    let tree = g.S.FileStore.tree c.args.store.now in
    let view = g.W.FolderCalls.view in
    let start = c.args.store.now in
    one-weaker first (view c.args.calls.now) (view c.scan_one.new.calls) n c.args.scanning.now.moment (MayFindAt gives (ShownFirst shown view start) keeps tree n) may (Fails gives n) c.scan_one.result
    (at-moved gives (ShownFirst shown view start) (ShownSince gives shown view begun) keeps tree tree
    (λ s v was. shown-earlier gives shown view begun start looks s v (shown-first gives shown view start s v was)) (λ k. refl) n)
    (one-alone first (view c.args.calls.now) (view c.scan_one.new.calls) n c.args.scanning.now.moment (MayFindAt gives (ShownFirst shown view start) keeps tree n) (Fails gives n) c.scan_one.result goes
    c.scan_one.ensures.scans c.scan_one.ensures.refused c.scan_one.ensures.failed)

pub returns-in_err-look-in-Read-clause-scans : goal.returns-in_err-look-in-Read-clause-scans
returns-in_err-look-in-Read-clause-scans g c = λ first begun goes looks seen.
    one-memory g.S.FileStore.gives first _ _ c.args.name.now c.args.scanning.now.moment _ _ (search rules) refl

pub returns-in_err-ask-in-Read-clause-scans : goal.returns-in_err-ask-in-Read-clause-scans
returns-in_err-ask-in-Read-clause-scans g c = λ first begun goes looks seen.
    one-memory g.S.FileStore.gives first _ _ c.args.name.now c.args.scanning.now.moment _ _ (search rules) c.in_err-ask-in-Read.ensures.out_of_memory
