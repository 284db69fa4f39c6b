use Rattle.std.proofs.Common.{◌∙◌, List, None, Some, map, refl, sym, ap, subst}
use Rattle.std.specs.Prelude.{IsTrue}
use Rattle.sync_record.specs.Records.{Name}
use Rattle.file_store.specs.Asked.{ListAll}
use Rattle.file_store.specs.Sequences.{IsLook}
use Rattle.file_store.specs.declared.node.Listed.{Listed}
use Rattle.file_store.proofs.SequenceLemmas.{called_on, called_once}
use Rattle.sync_scan.specs.AllNames.{AreMissing, GoesOver, ScansEach, UnlessBelow, names_of, sum_after}
use Rattle.sync_scan.specs.AllNames.ScansAll.{not_listed, not_read, scanned, stopped}
use Rattle.sync_scan.specs.Stops.{empty_sum}
use Rattle.sync_scan.specs.Told.{Fails}
use Rattle.sync_scan.specs.Looks.{MayFindAt, ShownSince}
use Rattle.sync_scan.specs.declared.sum.ScanStop.TheVariants.{OutOfMemory}
use Rattle.sync_scan.specs.declared.sum.ScanSum.{ScanSum}
use Rattle.sync_scan.proofs.LookLemmas.{list_look}
use Rattle.sync_scan.proofs.FaultLemmas.{after-fault, list-fault, memory-apart, none-apart}
use Rattle.sync_scan.proofs.EachLemmas.{below-moved, each-seen, each-weaker, is-none, is-some, at-moved, shown-earlier}
use Rattle.sync_scan.proofs.all.scan_all.Goals as goal

pub returns-in-Err-clause-scans : goal.returns-in-Err-clause-scans
returns-in-Err-clause-scans g c =
    not_listed c.in-Err.refusal (c.list.new.self, c.in-Err.ensures.gives, tt, c.in-Err.ensures.refusals, λ k. tt) refl
    (c.stopped_by.ensures ∙ (λ i. let s : ScanSum = c.new.ensures i in record s { stopped = Some (c.stop_by.ensures i) }))

pub returns-then-is_some-clause-scans : goal.returns-then-is_some-clause-scans
returns-then-is_some-clause-scans g c =
    let gives = g.S.FileStore.gives in
    let keeps = IsTrue g.S.FileStore.keeps in
    let tree = g.S.FileStore.tree c.args.store.now in
    let then = g.S.FileStore.tree c.list.new.self in
    let start = c.args.store.now in
    let view = g.W.FolderCalls.view in
    let shown = g.G.Gate.shown c.args.gate.now g.row.S.Denot g.row.W.Denot in
    let since = ShownSince gives shown view start in
    let listed = called_once gives IsLook start c.list.new.self ListAll _ tt c.in-Ok.ensures.gives in
    let after = ShownSince gives shown view c.list.new.self in
    let same = ap (map (λ (e : Listed). e.name)) c.deref.ensures.value in
    let scans = c.scan_listed-sum.ensures.scans in
    let stop = is-some c.scan_listed-sum.result.stopped (sym c.is_some.ensures ∙ c.if-is_some.true) in
    stopped c.in-Ok.listing scans.0 stop.0 (c.list.new.self, c.in-Ok.ensures.gives, c.in-Ok.ensures.order, tt, c.in-Ok.ensures.lists)
    (each-weaker scans.0 _ _ _ c.args.moment (MayFindAt gives after keeps then) (MayFindAt gives since keeps tree) (Fails gives)
    (at-moved gives after since keeps then tree (shown-earlier gives shown view start c.list.new.self listed) c.in-Ok.ensures.kept) scans.1)
    (subst (λ ns. GoesOver ns scans.0 (Some stop.0)) same (subst (GoesOver (map (λ (e : Listed). e.name) c.deref.result.now) scans.0) stop.1 scans.2)) scans.3

pub returns-clause-scans : goal.returns-clause-scans
returns-clause-scans g c =
    let gives = g.S.FileStore.gives in
    let keeps = IsTrue g.S.FileStore.keeps in
    let tree = g.S.FileStore.tree c.args.store.now in
    let then = g.S.FileStore.tree c.list.new.self in
    let start = c.args.store.now in
    let view = g.W.FolderCalls.view in
    let shown = g.G.Gate.shown c.args.gate.now g.row.S.Denot g.row.W.Denot in
    let since = ShownSince gives shown view start in
    let listed = called_once gives IsLook start c.list.new.self ListAll _ tt c.in-Ok.ensures.gives in
    let after = ShownSince gives shown view c.list.new.self in
    let same = ap (map (λ (e : Listed). e.name)) c.deref.ensures.value in
    let scans = c.scan_listed-sum.ensures.scans in
    let on = is-none c.scan_listed-sum.result.stopped (sym c.is_some.ensures ∙ c.if-is_some.false) in
    not_read c.in-Ok.listing scans.0 (c.list.new.self, c.in-Ok.ensures.gives, c.in-Ok.ensures.order, tt, c.in-Ok.ensures.lists)
    (each-seen scans.0 c.args.moment (MayFindAt gives since keeps tree) (Fails gives) _ _ _ _
    (each-weaker scans.0 _ _ _ c.args.moment (MayFindAt gives after keeps then) (MayFindAt gives since keeps tree) (Fails gives)
    (at-moved gives after since keeps then tree (shown-earlier gives shown view start c.list.new.self listed) c.in-Ok.ensures.kept) scans.1)
    c.in-Err-missing_names.ensures.sees)
    (subst (λ ns. GoesOver ns scans.0 None) same (subst (GoesOver (map (λ (e : Listed). e.name) c.deref.result.now) scans.0) on scans.2))
    (c.stopped_by-in-Err-missing_names.ensures ∙ ap (λ (s : ScanSum). record s { stopped = Some OutOfMemory }) scans.3)

pub returns-in-Ok-missing_names-clause-scans : goal.returns-in-Ok-missing_names-clause-scans
returns-in-Ok-missing_names-clause-scans g c =
    let gives = g.S.FileStore.gives in
    let keeps = IsTrue g.S.FileStore.keeps in
    let tree = g.S.FileStore.tree c.args.store.now in
    let then = g.S.FileStore.tree c.list.new.self in
    let start = c.args.store.now in
    let view = g.W.FolderCalls.view in
    let shown = g.G.Gate.shown c.args.gate.now g.row.S.Denot g.row.W.Denot in
    let since = ShownSince gives shown view start in
    let listed = called_once gives IsLook start c.list.new.self ListAll _ tt c.in-Ok.ensures.gives in
    let after = ShownSince gives shown view c.list.new.self in
    let last = g.S.FileStore.tree c.scan_listed-sum.new.store in
    let same = ap (map (λ (e : Listed). e.name)) c.deref.ensures.value in
    let scans = c.scan_listed-sum.ensures.scans in
    let later = c.scan_missing.ensures.scans in
    let on = is-none c.scan_listed-sum.result.stopped (sym c.is_some.ensures ∙ c.if-is_some.false) in
    let done = g.W.FolderCalls.view c.scan_listed-sum.new.calls in
    let point = g.W.FolderCalls.view c.missing_names.new.calls in
    let missing = c.deref-in-Ok-missing_names.result.now in
    let items = c.in-Ok-missing_names.names.items in
    let unread = c.in-Ok.listing.unread.items in
    let mid = c.scan_listed-sum.new.store in
    let later_on = ShownSince gives shown view mid in
    let on_store = called_on gives IsLook start c.list.new.self mid listed c.scan_listed-sum.ensures.looks in
    let below = UnlessBelow unread (MayFindAt gives later_on keeps last) in
    scanned c.in-Ok.listing missing scans.0 later.0 done point c.scan_missing.result.stopped
    (c.list.new.self, c.in-Ok.ensures.gives, c.in-Ok.ensures.order, tt, c.in-Ok.ensures.lists)
    (each-weaker scans.0 _ _ _ c.args.moment (MayFindAt gives after keeps then) (MayFindAt gives since keeps tree) (Fails gives)
    (at-moved gives after since keeps then tree (shown-earlier gives shown view start c.list.new.self listed) c.in-Ok.ensures.kept) scans.1)
    (subst (λ ns. GoesOver ns scans.0 None) same (subst (GoesOver (map (λ (e : Listed). e.name) c.deref.result.now) scans.0) on scans.2))
    c.in-Ok-missing_names.ensures.sees
    (subst (AreMissing done point (names_of c.in-Ok.listing)) (sym c.deref-in-Ok-missing_names.ensures.value)
    (subst (λ ns. AreMissing done point ns items) (ap (map (λ (e : Listed). e.name)) c.deref-2.ensures.value) c.in-Ok-missing_names.ensures.missing))
    (each-weaker later.0 _ _ _ c.args.moment below (UnlessBelow unread (MayFindAt gives since keeps tree)) (Fails gives)
    (below-moved gives later_on since keeps last tree unread (shown-earlier gives shown view start mid on_store) (λ k. c.scan_listed-sum.ensures.kept k ∙ c.in-Ok.ensures.kept k))
    (subst (λ (u : List Name). ScansEach point point c.args.moment (UnlessBelow u (MayFindAt gives later_on keeps last)) (Fails gives) later.0 (g.W.FolderCalls.view c.scan_missing.new.calls)) c.deref-in-Ok-missing_names-2.ensures.value later.1))
    later.2 (later.3 ∙ ap (λ s. sum_after s later.0) scans.3)

pub returns-in-Err-clause-faulted : goal.returns-in-Err-clause-faulted
returns-in-Err-clause-faulted g c = λ e.
    let stop = c.stopped_by.ensures ∙ (λ i. let s : ScanSum = c.new.ensures i in record s { stopped = Some (c.stop_by.ensures i) }) in
    list-fault c.in-Err.refusal _ _ c.in-Err.ensures.refusals (sym (ap (λ (s : ScanSum). s.stopped) stop) ∙ e) c.in-Err.ensures.counted

pub returns-then-is_some-clause-faulted : goal.returns-then-is_some-clause-faulted
returns-then-is_some-clause-faulted g c = λ e.
    let scans = c.scan_listed-sum.ensures.scans in
    absurd (after-fault scans.0 empty_sum c.scan_listed-sum.result scans.3 none-apart e)

pub returns-clause-faulted : goal.returns-clause-faulted
returns-clause-faulted g c = λ e.
    let stop = ap (λ (s : ScanSum). s.stopped) c.stopped_by-in-Err-missing_names.ensures in
    absurd (memory-apart (sym stop ∙ e))

pub returns-in-Ok-missing_names-clause-faulted : goal.returns-in-Ok-missing_names-clause-faulted
returns-in-Ok-missing_names-clause-faulted g c = λ e.
    let scans = c.scan_listed-sum.ensures.scans in
    let later = c.scan_missing.ensures.scans in
    absurd (after-fault later.0 c.scan_listed-sum.result c.scan_missing.result later.3 (after-fault scans.0 empty_sum c.scan_listed-sum.result scans.3 none-apart) e)

pub returns-in-Err-clause-looks : goal.returns-in-Err-clause-looks
returns-in-Err-clause-looks g c = list_look g.S.FileStore.gives _ _ _ c.in-Err.ensures.gives

pub returns-then-is_some-clause-looks : goal.returns-then-is_some-clause-looks
returns-then-is_some-clause-looks g c = called_on g.S.FileStore.gives IsLook c.args.store.now c.list.new.self c.scan_listed-sum.new.store (list_look g.S.FileStore.gives _ _ _ c.in-Ok.ensures.gives) c.scan_listed-sum.ensures.looks

pub returns-clause-looks : goal.returns-clause-looks
returns-clause-looks g c = called_on g.S.FileStore.gives IsLook c.args.store.now c.list.new.self c.scan_listed-sum.new.store (list_look g.S.FileStore.gives _ _ _ c.in-Ok.ensures.gives) c.scan_listed-sum.ensures.looks

pub returns-in-Ok-missing_names-clause-looks : goal.returns-in-Ok-missing_names-clause-looks
returns-in-Ok-missing_names-clause-looks g c =
    called_on g.S.FileStore.gives IsLook c.args.store.now c.scan_listed-sum.new.store c.scan_missing.new.store
    (called_on g.S.FileStore.gives IsLook c.args.store.now c.list.new.self c.scan_listed-sum.new.store (list_look g.S.FileStore.gives _ _ _ c.in-Ok.ensures.gives) c.scan_listed-sum.ensures.looks)
    c.scan_missing.ensures.looks
