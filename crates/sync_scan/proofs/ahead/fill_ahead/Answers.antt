use Rattle.std.proofs.Common.{take, map}
use Rattle.std.specs.Prelude.{IsTrue}
use Rattle.sync_record.specs.Records.{Name}
use Rattle.file_store.specs.declared.node.Listed.{Listed}
use Rattle.sync_scan.specs.Ahead.{HasBlocks, IsSeen}
use Rattle.sync_scan.specs.Looks.{MayFindAt, ShownSince}
use Rattle.sync_scan.specs.Told.{Fails}
use Rattle.sync_scan.specs.declared.ahead.Seen.{Seen}
use Rattle.sync_scan.proofs.EachLemmas.{at-moved, shown-earlier}
use Rattle.sync_scan.proofs.OnLemmas.{goes-itself}
use Rattle.sync_scan.proofs.SeenLemmas.{all-weaker, seen-weaker}
use Rattle.sync_scan.proofs.ahead.fill_ahead.Goals as goal

pub returns-clause-seen : goal.returns-clause-seen
returns-clause-seen g c = λ first begun tree goes looks same seen.
    let gives = g.S.FileStore.gives in
    let keeps = IsTrue g.S.FileStore.keeps in
    let old = g.W.FolderCalls.view c.args.calls.now in
    let new = g.W.FolderCalls.view c.look_ahead.new.calls in
    let has = HasBlocks c.look_ahead.result.blocks.items in
    let then = g.S.FileStore.tree c.args.store.now in
    let view = g.W.FolderCalls.view in
    let shown = g.G.Gate.shown c.args.scanning.now.gate.now g.row.S.Denot g.row.W.Denot in
    let start = c.args.store.now in
    let own = MayFindAt gives (ShownSince gives shown view start) keeps then in
    let may = MayFindAt gives (ShownSince gives shown view begun) keeps tree in
    let all = c.look_ahead.ensures.seen in (
      all.0,
      all-weaker (IsSeen has old new own (Fails gives)) (IsSeen has first new may (Fails gives)) (take all.0 (map (λ (e : Listed). e.name) c.args.entries.now)) c.look_ahead.result.seen.items
          (λ (n : Name) (s : Seen). seen-weaker has has first old new new own may (Fails gives) n s (λ p b h. h) goes (goes-itself new)
          (at-moved gives (ShownSince gives shown view start) (ShownSince gives shown view begun) keeps then tree (shown-earlier gives shown view begun start looks) same)) all.1,
    )
