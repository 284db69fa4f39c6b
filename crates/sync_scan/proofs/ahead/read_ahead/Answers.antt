use Rattle.std.proofs.Common.{◌∙◌, ◌++◌, ◌∷◌, [], map, take, refl, sym, ap, subst, arith}
use Rattle.std.specs.Prelude.{IsTrue}
use Rattle.std.specs.List.{AllZip}
use Rattle.std.proofs.lemmas.List.{get_or-map, length-map, take_more}
use Rattle.std.proofs.lemmas.Slice.Zip.{all_zipped_more}
use Rattle.sync_record.specs.Records.{Name}
use Rattle.file_store.specs.Sequences.{IsLook, not_called}
use Rattle.file_store.specs.declared.node.Listed.{Listed}
use Rattle.file_store.proofs.SequenceLemmas.{called_on}
use Rattle.sync_scan.specs.Ahead.{HasBytes, IsSeen}
use Rattle.sync_scan.specs.Looks.{MayFindAt, ShownSince}
use Rattle.sync_scan.specs.Told.{Fails}
use Rattle.sync_scan.specs.declared.ahead.Seen.{Seen}
use Rattle.sync_scan.proofs.CutLemmas.{has-more}
use Rattle.sync_scan.proofs.EachLemmas.{at-moved, shown-earlier}
use Rattle.sync_scan.proofs.OnLemmas.{goes-itself, sees-goes}
use Rattle.sync_scan.proofs.ScanLemmas.{sees-itself, sees-on}
use Rattle.sync_scan.proofs.SeenLemmas.{all-weaker, seen-weaker}
use Rattle.sync_scan.proofs.ahead.read_ahead.Goals as goal

pub loop-entry-init : goal.loop-entry-init
loop-entry-init g c = record {
  folder = refl;
  sees = sees-itself (g.W.FolderCalls.view c.args.calls.now);
  within = omega arith;
  seen = subst (AllZip (IsSeen (HasBytes (take c.args.batch.now.filled c.args.buffer.now.items) c.args.batch.now.cuts.items) (g.W.FolderCalls.view c.args.calls.now) (g.W.FolderCalls.view c.args.calls.now)
      (MayFindAt g.S.FileStore.gives (ShownSince g.S.FileStore.gives (g.G.Gate.shown c.args.scanning.now.gate.now g.row.S.Denot g.row.W.Denot) g.W.FolderCalls.view c.args.store.now) (IsTrue g.S.FileStore.keeps) (g.S.FileStore.tree c.args.store.now)) (Fails g.S.FileStore.gives)) []) (sym c.in_ok-seen.ensures.items) tt;
  looks = not_called;
  kept = λ k. refl;
}

pub loop-entry-preserved : goal.loop-entry-preserved
loop-entry-preserved g c =
    let gives = g.S.FileStore.gives in
    let fails = Fails gives in
    let keeps = IsTrue g.S.FileStore.keeps in
    let old = g.W.FolderCalls.view c.args.calls.now in
    let before = g.W.FolderCalls.view c.loop-entry.calls in
    let new = g.W.FolderCalls.view c.see.new.calls in
    let tree = g.S.FileStore.tree c.args.store.now in
    let then = g.S.FileStore.tree c.loop-entry.store in
    let view = g.W.FolderCalls.view in
    let shown = g.G.Gate.shown c.args.scanning.now.gate.now g.row.S.Denot g.row.W.Denot in
    let start = c.args.store.now in
    let mid = c.loop-entry.store in
    let may = MayFindAt gives (ShownSince gives shown view start) keeps tree in
    let entries = c.args.entries.now in
    let i = c.loop-entry.entry-index in
    let x = c.entry-item.result in
    let name = λ (e : Listed). e.name in
    let names = map name entries in
    let at = get_or-map name entries i x x.name c.loop-entry-test.true ∙ ap name (sym c.entry-item.is) in
    let more = take_more names i x.name (omega (arith, length-map entries name)) ∙ ap (λ y. take i names ++ y ∷ []) at in
    let known = take c.loop-entry.batch.filled c.loop-entry.buffer.items in
    let known' = take c.see.new.batch.filled c.see.new.buffer.items in
    let cuts = c.loop-entry.batch.cuts.items in
    let cuts' = c.see.new.batch.cuts.items in
    let R = IsSeen (HasBytes known' cuts') old new may fails in
    let on = sees-goes before new c.see.ensures.sees in
    record {
      folder = c.see.ensures.folder ∙ c.loop-entry.invariant.folder;
      sees = sees-on old before new c.loop-entry.invariant.sees c.see.ensures.sees;
      within = c.in_ok-next.ensures.within;
      seen = subst (λ ns. AllZip R ns c.push_back.new.self.items) (sym more)
          (subst (AllZip R (take i names ++ x.name ∷ [])) (sym c.in_ok-push_back.ensures.items)
          (all_zipped_more R (take i names) c.loop-entry.seen.items x.name c.in_ok-next.next
          (all-weaker (IsSeen (HasBytes known cuts) old before may fails) R (take i names) c.loop-entry.seen.items
          (λ (n : Name) (s : Seen). seen-weaker (HasBytes known cuts) (HasBytes known' cuts') old old before new may may fails n s
          (λ p b h. has-more known cuts p b h known' cuts' c.in_ok-next.ensures.bytes c.in_ok-next.ensures.cuts) (goes-itself old) on (λ m l f u. u))
          c.loop-entry.invariant.seen)
          (seen-weaker (HasBytes known' cuts') (HasBytes known' cuts') old before new new (MayFindAt gives (ShownSince gives shown view mid) keeps then) may fails x.name c.in_ok-next.next
          (λ p b h. h) (sees-goes old before c.loop-entry.invariant.sees) (goes-itself new)
          (at-moved gives (ShownSince gives shown view mid) (ShownSince gives shown view start) keeps then tree (shown-earlier gives shown view start mid c.loop-entry.invariant.looks) c.loop-entry.invariant.kept) c.in_ok-next.ensures.seen)));
      looks = called_on gives IsLook start mid c.see.new.store c.loop-entry.invariant.looks c.see.ensures.looks;
      kept = λ k. c.see.ensures.kept k ∙ c.loop-entry.invariant.kept k;
    }

pub returns-in_err-next-clause-looks : goal.returns-in_err-next-clause-looks
returns-in_err-next-clause-looks g c = called_on g.S.FileStore.gives IsLook c.args.store.now c.loop-entry.store c.see.new.store c.loop-entry.invariant.looks c.in_err-next.ensures.looks

pub returns-in_err-push_back-clause-looks : goal.returns-in_err-push_back-clause-looks
returns-in_err-push_back-clause-looks g c = called_on g.S.FileStore.gives IsLook c.args.store.now c.loop-entry.store c.see.new.store c.loop-entry.invariant.looks c.see.ensures.looks

pub returns-in_err-seen-clause-looks : goal.returns-in_err-seen-clause-looks
returns-in_err-seen-clause-looks g c = not_called
