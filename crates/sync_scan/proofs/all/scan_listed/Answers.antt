use Rattle.std.proofs.Common.{◌≡◌, ◌∙◌, ◌+◌, ◌++◌, ◌∷◌, [], None, map, take, drop, drop-cons, suc, refl, sym, ap, subst, arith}
use Rattle.std.specs.Prelude.{IsTrue}
use Rattle.std.proofs.lemmas.List.{get_or-map, length-map, take_more, take_rest}
use Rattle.file_store.specs.Sequences.{IsLook, not_called}
use Rattle.file_store.specs.declared.node.Listed.{Listed}
use Rattle.file_store.proofs.SequenceLemmas.{called_on}
use Rattle.sync_scan.specs.Ahead.{AreSeen}
use Rattle.sync_scan.specs.Told.{Fails}
use Rattle.sync_scan.specs.Looks.{MayFindAt, ShownSince}
use Rattle.sync_scan.specs.Stops.{empty_sum}
use Rattle.sync_scan.proofs.CutLemmas.{drop-map}
use Rattle.sync_scan.proofs.EachLemmas.{Ends, Goes, divided-at, each-goes, ends, goes-nowhere, goes-on, is-none, at-moved, shown-same}
use Rattle.sync_scan.proofs.OnLemmas.{goes-then, one-goes, sees-goes}
use Rattle.sync_scan.proofs.SeenLemmas.{are-none, are-on, turn-next, turn-seen}
use Rattle.sync_scan.proofs.all.scan_listed.Goals as goal

pub loop-index-init : goal.loop-index-init
loop-index-init g c =
    let gives = g.S.FileStore.gives in
    let view = g.W.FolderCalls.view in
    let shown = g.G.Gate.shown c.args.scanning.now.gate.now g.row.S.Denot g.row.W.Denot in
    let may = MayFindAt gives (ShownSince gives shown view c.args.store.now) (IsTrue g.S.FileStore.keeps) (g.S.FileStore.tree c.args.store.now) in
    let fails = Fails gives in
    let v = g.W.FolderCalls.view c.args.calls.now in
    record {
      folder = refl;
      scans = subst (λ s. Goes v c.args.scanning.now.moment may fails [] empty_sum s v) (sym c.new-sum.ensures) (goes-nowhere v c.args.scanning.now.moment may fails empty_sum);
      ahead = are-none c.none-ahead.result v v may fails (map (λ (e : Listed). e.name) c.args.entries.now) c.none-ahead.ensures;
      stopped = ap (λ s. s.stopped) c.new-sum.ensures;
      looks = not_called;
      kept = λ keeps. refl;
    }

pub scan_seen-came_to-requires-clause-seen : goal.scan_seen-came_to-requires-clause-seen
scan_seen-came_to-requires-clause-seen g c κs within =
    let gives = g.S.FileStore.gives in
    let fails = Fails gives in
    let keeps = IsTrue g.S.FileStore.keeps in
    let old = g.W.FolderCalls.view c.args.calls.now in
    let v = g.W.FolderCalls.view c.loop-index.calls in
    let mid = g.W.FolderCalls.view c.next_seen-seen.new.calls in
    let tree = g.S.FileStore.tree c.args.store.now in
    let then = g.S.FileStore.tree c.loop-index.store in
    let later = g.S.FileStore.tree c.next_seen-seen.new.store in
    let view = g.W.FolderCalls.view in
    let shown = g.G.Gate.shown c.args.scanning.now.gate.now g.row.S.Denot g.row.W.Denot in
    let start = c.args.store.now in
    let now = c.next_seen-seen.new.store in
    let since = ShownSince gives shown view start in
    let same = shown-same gives shown view start in
    let looks = c.loop-index.invariant.looks in
    let may = MayFindAt gives since keeps tree in
    let can = MayFindAt gives since keeps later in
    let entries = c.args.entries.now in
    let i = c.loop-index.index in
    let x = c.index-entries-index.result in
    let name = λ (e : Listed). e.name in
    let names = map name entries in
    let at = get_or-map name entries i x x.name c.loop-index-test.true ∙ ap name (sym c.index-entries-index.is) in
    let rest = drop-cons names i x.name (omega (arith, length-map entries name)) ∙ ap (λ y. y ∷ drop (suc i) names) at in
    let goes = each-goes c.loop-index.invariant.scans.0 c.args.scanning.now.moment may fails old old v c.loop-index.invariant.scans.1 in
    let kept = λ (k : IsTrue g.S.FileStore.keeps). c.next_seen-seen.ensures.kept k ∙ c.loop-index.invariant.kept k in
    let got = c.next_seen-seen.ensures.seen old start tree x.name (drop (suc i) names) goes looks c.loop-index.invariant.kept
    (ap (map name) (take_rest entries i) ∙ sym (drop-map name i entries) ∙ rest) (subst (AreSeen c.loop-index.ahead old v may fails) rest c.loop-index.invariant.ahead) in
    let seen = turn-seen old mid may can fails x.name c.next_seen-seen.result c.next_seen-seen.new.ahead.blocks.items c.deref.result.now c.deref.ensures.value (at-moved gives since since keeps tree later same (λ k. sym (kept k))) got.0 in
    (old, start, seen)

pub returns-then-is_some-clause-scans : goal.returns-then-is_some-clause-scans
returns-then-is_some-clause-scans g c =
    let gives = g.S.FileStore.gives in
    let fails = Fails gives in
    let keeps = IsTrue g.S.FileStore.keeps in
    let old = g.W.FolderCalls.view c.args.calls.now in
    let v = g.W.FolderCalls.view c.loop-index.calls in
    let mid = g.W.FolderCalls.view c.next_seen-seen.new.calls in
    let tree = g.S.FileStore.tree c.args.store.now in
    let then = g.S.FileStore.tree c.loop-index.store in
    let later = g.S.FileStore.tree c.next_seen-seen.new.store in
    let view = g.W.FolderCalls.view in
    let shown = g.G.Gate.shown c.args.scanning.now.gate.now g.row.S.Denot g.row.W.Denot in
    let start = c.args.store.now in
    let now = c.next_seen-seen.new.store in
    let since = ShownSince gives shown view start in
    let same = shown-same gives shown view start in
    let looks = c.loop-index.invariant.looks in
    let may = MayFindAt gives since keeps tree in
    let can = MayFindAt gives since keeps later in
    let entries = c.args.entries.now in
    let i = c.loop-index.index in
    let x = c.index-entries-index.result in
    let name = λ (e : Listed). e.name in
    let names = map name entries in
    let at = get_or-map name entries i x x.name c.loop-index-test.true ∙ ap name (sym c.index-entries-index.is) in
    let rest = drop-cons names i x.name (omega (arith, length-map entries name)) ∙ ap (λ y. y ∷ drop (suc i) names) at in
    let goes = each-goes c.loop-index.invariant.scans.0 c.args.scanning.now.moment may fails old old v c.loop-index.invariant.scans.1 in
    let kept = λ (k : IsTrue g.S.FileStore.keeps). c.next_seen-seen.ensures.kept k ∙ c.loop-index.invariant.kept k in
    let got = c.next_seen-seen.ensures.seen old start tree x.name (drop (suc i) names) goes looks c.loop-index.invariant.kept
    (ap (map name) (take_rest entries i) ∙ sym (drop-map name i entries) ∙ rest) (subst (AreSeen c.loop-index.ahead old v may fails) rest c.loop-index.invariant.ahead) in
    let seen = turn-seen old mid may can fails x.name c.next_seen-seen.result c.next_seen-seen.new.ahead.blocks.items c.deref.result.now c.deref.ensures.value (at-moved gives since since keeps tree later same (λ k. sym (kept k))) got.0 in
    let new = g.W.FolderCalls.view c.scan_seen-came_to.new.calls in
    let on = called_on gives IsLook start c.loop-index.store now looks c.next_seen-seen.ensures.looks in
    let turned = c.scan_seen-came_to.ensures.scans old start (goes-then old v mid goes (sees-goes v mid c.next_seen-seen.ensures.sees)) on seen in
    let next = turn-next old v mid new x.name c.args.scanning.now.moment may can fails c.loop-index.sum c.count.new.self c.scan_seen-came_to.result c.next_seen-seen.ensures.sees
    (at-moved gives since since keeps later tree same kept) turned c.count.ensures in
    let whole = divided-at names i x.name (omega (arith, length-map entries name)) ∙ ap (λ y. take i names ++ y ∷ drop (suc i) names) at in
    subst (λ ns. Ends old c.args.scanning.now.moment may fails ns empty_sum c.count.new.self new) (sym whole)
    (ends _ _ _ c.args.scanning.now.moment may fails (take i names) x.name empty_sum c.loop-index.sum c.count.new.self c.loop-index.invariant.scans next
    c.loop-index.invariant.stopped (drop (suc i) names) (sym c.is_some.ensures ∙ c.if-is_some.true))

pub loop-index-preserved : goal.loop-index-preserved
loop-index-preserved g c =
    let gives = g.S.FileStore.gives in
    let fails = Fails gives in
    let keeps = IsTrue g.S.FileStore.keeps in
    let old = g.W.FolderCalls.view c.args.calls.now in
    let v = g.W.FolderCalls.view c.loop-index.calls in
    let mid = g.W.FolderCalls.view c.next_seen-seen.new.calls in
    let tree = g.S.FileStore.tree c.args.store.now in
    let then = g.S.FileStore.tree c.loop-index.store in
    let later = g.S.FileStore.tree c.next_seen-seen.new.store in
    let view = g.W.FolderCalls.view in
    let shown = g.G.Gate.shown c.args.scanning.now.gate.now g.row.S.Denot g.row.W.Denot in
    let start = c.args.store.now in
    let now = c.next_seen-seen.new.store in
    let since = ShownSince gives shown view start in
    let same = shown-same gives shown view start in
    let looks = c.loop-index.invariant.looks in
    let may = MayFindAt gives since keeps tree in
    let can = MayFindAt gives since keeps later in
    let entries = c.args.entries.now in
    let i = c.loop-index.index in
    let x = c.index-entries-index.result in
    let name = λ (e : Listed). e.name in
    let names = map name entries in
    let at = get_or-map name entries i x x.name c.loop-index-test.true ∙ ap name (sym c.index-entries-index.is) in
    let rest = drop-cons names i x.name (omega (arith, length-map entries name)) ∙ ap (λ y. y ∷ drop (suc i) names) at in
    let goes = each-goes c.loop-index.invariant.scans.0 c.args.scanning.now.moment may fails old old v c.loop-index.invariant.scans.1 in
    let kept = λ (k : IsTrue g.S.FileStore.keeps). c.next_seen-seen.ensures.kept k ∙ c.loop-index.invariant.kept k in
    let got = c.next_seen-seen.ensures.seen old start tree x.name (drop (suc i) names) goes looks c.loop-index.invariant.kept
    (ap (map name) (take_rest entries i) ∙ sym (drop-map name i entries) ∙ rest) (subst (AreSeen c.loop-index.ahead old v may fails) rest c.loop-index.invariant.ahead) in
    let seen = turn-seen old mid may can fails x.name c.next_seen-seen.result c.next_seen-seen.new.ahead.blocks.items c.deref.result.now c.deref.ensures.value (at-moved gives since since keeps tree later same (λ k. sym (kept k))) got.0 in
    let new = g.W.FolderCalls.view c.scan_seen-came_to.new.calls in
    let on = called_on gives IsLook start c.loop-index.store now looks c.next_seen-seen.ensures.looks in
    let turned = c.scan_seen-came_to.ensures.scans old start (goes-then old v mid goes (sees-goes v mid c.next_seen-seen.ensures.sees)) on seen in
    let next = turn-next old v mid new x.name c.args.scanning.now.moment may can fails c.loop-index.sum c.count.new.self c.scan_seen-came_to.result c.next_seen-seen.ensures.sees
    (at-moved gives since since keeps later tree same kept) turned c.count.ensures in
    let more = take_more names i x.name (omega (arith, length-map entries name)) ∙ ap (λ y. take i names ++ y ∷ []) at in
    let off : c.count.new.self.stopped ≡ None = is-none _ (sym c.is_some.ensures ∙ c.if-is_some.false) in
    let after : suc i ≡ i + 1 = omega arith in
    let ahead = c.next_seen-seen.new.ahead in
    record {
      folder = c.scan_seen-came_to.ensures.folder ∙ c.next_seen-seen.ensures.folder ∙ c.loop-index.invariant.folder;
      scans = subst (λ ns. Goes old c.args.scanning.now.moment may fails ns empty_sum c.count.new.self new) (sym more)
          (goes-on _ _ _ c.args.scanning.now.moment may fails (take i names) x.name empty_sum c.loop-index.sum c.count.new.self c.loop-index.invariant.scans next c.loop-index.invariant.stopped off);
      ahead = subst (λ k. AreSeen ahead old new may fails (drop k names)) after
          (are-on ahead old mid new may fails (drop (suc i) names) (one-goes old mid new x.name c.args.scanning.now.moment (can x.name) (fails x.name) c.scan_seen-came_to.result turned) got.1);
      stopped = off;
      looks = called_on gives IsLook start now c.scan_seen-came_to.new.store on c.scan_seen-came_to.ensures.looks;
      kept = λ k. c.scan_seen-came_to.ensures.kept k ∙ kept k;
    }

pub returns-then-is_some-clause-looks : goal.returns-then-is_some-clause-looks
returns-then-is_some-clause-looks g c =
    called_on g.S.FileStore.gives IsLook c.args.store.now c.next_seen-seen.new.store c.scan_seen-came_to.new.store
    (called_on g.S.FileStore.gives IsLook c.args.store.now c.loop-index.store c.next_seen-seen.new.store c.loop-index.invariant.looks c.next_seen-seen.ensures.looks)
    c.scan_seen-came_to.ensures.looks
