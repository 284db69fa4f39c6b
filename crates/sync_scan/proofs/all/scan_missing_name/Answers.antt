use Rattle.std.proofs.Common.{◌∙◌, refl, sym}
use Rattle.std.specs.Prelude.{IsTrue}
use Rattle.sync_scan.specs.AllNames.{UnlessBelow}
use Rattle.sync_scan.specs.Looks.{MayFindAt, ShownFirst, ShownSince}
use Rattle.sync_scan.specs.Told.{Fails}
use Rattle.sync_scan.proofs.EachLemmas.{at-moved, not-below, one-weaker, shown-first, skipped}
use Rattle.sync_scan.proofs.OnLemmas.{goes-itself, one-alone}
use Rattle.sync_scan.proofs.all.scan_missing_name.Goals as goal

pub returns-then-is_below_any-clause-scans : goal.returns-then-is_below_any-clause-scans
returns-then-is_below_any-clause-scans g c =
    let gives = g.S.FileStore.gives in
    let n = c.args.name.now in
    let view = g.W.FolderCalls.view in
    let shown = g.G.Gate.shown c.args.scanning.now.gate.now g.row.S.Denot g.row.W.Denot in
    let may = MayFindAt gives (ShownSince gives shown view c.args.store.now) (IsTrue g.S.FileStore.keeps) (g.S.FileStore.tree c.args.store.now) in
    skipped _ n c.args.scanning.now.moment c.args.unread.now may (Fails gives n) (sym c.is_below_any.ensures ∙ c.if-is_below_any.true)

pub returns-clause-scans : goal.returns-clause-scans
returns-clause-scans g c =
    let gives = g.S.FileStore.gives in
    let n = c.args.name.now in
    let moment = c.args.scanning.now.moment in
    let unread = c.args.unread.now in
    let view = g.W.FolderCalls.view in
    let shown = g.G.Gate.shown c.args.scanning.now.gate.now g.row.S.Denot g.row.W.Denot in
    let start = c.args.store.now in
    let keeps = IsTrue g.S.FileStore.keeps in
    let tree = g.S.FileStore.tree start in
    let old = view c.args.calls.now in
    let new = view c.scan_one-scanned.new.calls in
    let first = MayFindAt gives (ShownFirst shown view start) keeps tree n in
    let since = MayFindAt gives (ShownSince gives shown view start) keeps tree in
    one-weaker old old new n moment (since n) (UnlessBelow unread since n) (Fails gives n) c.scan_one-scanned.result (not-below unread since n (sym c.is_below_any.ensures ∙ c.if-is_below_any.false))
    (one-weaker old old new n moment first (since n) (Fails gives n) c.scan_one-scanned.result
    (at-moved gives (ShownFirst shown view start) (ShownSince gives shown view start) keeps tree tree (shown-first gives shown view start) (λ k. refl) n)
    (one-alone old old new n moment first (Fails gives n) c.scan_one-scanned.result (goes-itself old) c.scan_one-scanned.ensures.scans c.scan_one-scanned.ensures.refused c.scan_one-scanned.ensures.failed))
