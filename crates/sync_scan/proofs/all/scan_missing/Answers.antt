use Rattle.std.proofs.Common.{◌≡◌, ◌∙◌, ◌++◌, ◌∷◌, [], None, take, drop, suc, refl, sym, ap, subst}
use Rattle.std.specs.Prelude.{IsTrue}
use Rattle.std.proofs.lemmas.List.{take_more}
use Rattle.file_store.specs.Sequences.{IsLook, not_called}
use Rattle.file_store.proofs.SequenceLemmas.{called_on}
use Rattle.sync_scan.specs.AllNames.{UnlessBelow}
use Rattle.sync_scan.specs.Told.{Fails}
use Rattle.sync_scan.specs.Looks.{MayFindAt, ShownSince}
use Rattle.sync_scan.proofs.EachLemmas.{Ends, Goes, divided-at, ends, goes-nowhere, goes-on, is-none, below-moved, next-earlier, each-goes, next-weaker, shown-earlier}
use Rattle.sync_scan.proofs.all.scan_missing.Goals as goal

pub returns-then-is_some-clause-scans : goal.returns-then-is_some-clause-scans
returns-then-is_some-clause-scans g c =
    let gives = g.S.FileStore.gives in
    let fails = Fails gives in
    let keeps = IsTrue g.S.FileStore.keeps in
    let old = g.W.FolderCalls.view c.args.calls.now in
    let new = g.W.FolderCalls.view c.scan_missing_name-scanned.new.calls in
    let tree = g.S.FileStore.tree c.args.store.now in
    let unread = c.args.missing.now.unread.now in
    let view = g.W.FolderCalls.view in
    let shown = g.G.Gate.shown c.args.scanning.now.gate.now g.row.S.Denot g.row.W.Denot in
    let start = c.args.store.now in
    let mid = c.loop-name.store in
    let since = ShownSince gives shown view start in
    let later = ShownSince gives shown view mid in
    let may = UnlessBelow unread (MayFindAt gives since keeps tree) in
    let then = g.S.FileStore.tree c.loop-name.store in
    let names = c.args.missing.now.names.now in
    let i = c.loop-name.name-index in
    let n = c.name-item.result in
    let whole = divided-at names i n c.loop-name-test.true ∙ ap (λ y. take i names ++ y ∷ drop (suc i) names) (sym c.name-item.is) in
    subst (λ ns. Ends old c.args.scanning.now.moment may fails ns c.args.sum c.count.new.self new) (sym whole)
    (ends _ _ _ c.args.scanning.now.moment may fails (take i names) n c.args.sum c.loop-name.sum c.count.new.self c.loop-name.invariant.scans
    (next-earlier old _ _ n c.args.scanning.now.moment may fails c.loop-name.sum c.count.new.self (each-goes _ c.args.scanning.now.moment may fails _ old _ c.loop-name.invariant.scans.1)
    (next-weaker _ _ _ n c.args.scanning.now.moment (UnlessBelow unread (MayFindAt gives later keeps then)) may fails c.loop-name.sum c.count.new.self (below-moved gives later since keeps then tree unread (shown-earlier gives shown view start mid c.loop-name.invariant.looks) c.loop-name.invariant.kept n) (c.scan_missing_name-scanned.result, c.scan_missing_name-scanned.ensures.scans, c.count.ensures)))
    c.loop-name.invariant.stopped (drop (suc i) names) (sym c.is_some.ensures ∙ c.if-is_some.true))

pub loop-name-preserved : goal.loop-name-preserved
loop-name-preserved g c =
    let gives = g.S.FileStore.gives in
    let fails = Fails gives in
    let keeps = IsTrue g.S.FileStore.keeps in
    let old = g.W.FolderCalls.view c.args.calls.now in
    let new = g.W.FolderCalls.view c.scan_missing_name-scanned.new.calls in
    let tree = g.S.FileStore.tree c.args.store.now in
    let unread = c.args.missing.now.unread.now in
    let view = g.W.FolderCalls.view in
    let shown = g.G.Gate.shown c.args.scanning.now.gate.now g.row.S.Denot g.row.W.Denot in
    let start = c.args.store.now in
    let mid = c.loop-name.store in
    let since = ShownSince gives shown view start in
    let later = ShownSince gives shown view mid in
    let may = UnlessBelow unread (MayFindAt gives since keeps tree) in
    let then = g.S.FileStore.tree c.loop-name.store in
    let names = c.args.missing.now.names.now in
    let i = c.loop-name.name-index in
    let n = c.name-item.result in
    let more = take_more names i n c.loop-name-test.true ∙ ap (λ y. take i names ++ y ∷ []) (sym c.name-item.is) in
    let off : c.count.new.self.stopped ≡ None = is-none _ (sym c.is_some.ensures ∙ c.if-is_some.false) in
    record {
      folder = c.scan_missing_name-scanned.ensures.folder ∙ c.loop-name.invariant.folder;
      scans = subst (λ ns. Goes old c.args.scanning.now.moment may fails ns c.args.sum c.count.new.self new) (sym more)
          (goes-on _ _ _ c.args.scanning.now.moment may fails (take i names) n c.args.sum c.loop-name.sum c.count.new.self c.loop-name.invariant.scans
          (next-earlier old _ _ n c.args.scanning.now.moment may fails c.loop-name.sum c.count.new.self (each-goes _ c.args.scanning.now.moment may fails _ old _ c.loop-name.invariant.scans.1)
          (next-weaker _ _ _ n c.args.scanning.now.moment (UnlessBelow unread (MayFindAt gives later keeps then)) may fails c.loop-name.sum c.count.new.self (below-moved gives later since keeps then tree unread (shown-earlier gives shown view start mid c.loop-name.invariant.looks) c.loop-name.invariant.kept n) (c.scan_missing_name-scanned.result, c.scan_missing_name-scanned.ensures.scans, c.count.ensures)))
          c.loop-name.invariant.stopped off);
      stopped = off;
      looks = called_on gives IsLook start mid c.scan_missing_name-scanned.new.store c.loop-name.invariant.looks c.scan_missing_name-scanned.ensures.looks;
      kept = λ k. c.scan_missing_name-scanned.ensures.kept k ∙ c.loop-name.invariant.kept k;
    }

pub loop-name-init : goal.loop-name-init
loop-name-init g c =
    let gives = g.S.FileStore.gives in
    let view = g.W.FolderCalls.view in
    let shown = g.G.Gate.shown c.args.scanning.now.gate.now g.row.S.Denot g.row.W.Denot in
    let may = UnlessBelow c.args.missing.now.unread.now (MayFindAt gives (ShownSince gives shown view c.args.store.now) (IsTrue g.S.FileStore.keeps) (g.S.FileStore.tree c.args.store.now)) in
    record {
      folder = refl;
      scans = goes-nowhere (g.W.FolderCalls.view c.args.calls.now) c.args.scanning.now.moment may (Fails gives) c.args.sum;
      stopped = c.requires;
      looks = not_called;
      kept = λ k. refl;
    }

pub returns-then-is_some-clause-looks : goal.returns-then-is_some-clause-looks
returns-then-is_some-clause-looks g c = called_on g.S.FileStore.gives IsLook c.args.store.now c.loop-name.store c.scan_missing_name-scanned.new.store c.loop-name.invariant.looks c.scan_missing_name-scanned.ensures.looks
