use Rattle.std.proofs.Common.{◌≡◌, ◌∙◌, take, map}
use Rattle.std.specs.Prelude.{IsTrue}
use Rattle.sync_record.specs.Records.{Name}
use Rattle.file_store.specs.declared.node.Listed.{Listed}
use Rattle.sync_scan.specs.Ahead.{HasBlocks, HasBytes, IsSeen, cut_block}
use Rattle.sync_scan.specs.Looks.{MayFindAt, ShownSince}
use Rattle.sync_scan.specs.Told.{Fails}
use Rattle.sync_scan.specs.declared.ahead.Seen.{Seen}
use Rattle.sync_scan.proofs.CutLemmas.{has-blocks}
use Rattle.sync_scan.proofs.OnLemmas.{goes-itself}
use Rattle.sync_scan.proofs.SeenLemmas.{all-weaker, seen-weaker}
use Rattle.sync_scan.proofs.ahead.look_ahead.Goals as goal

pub returns-in-Ok-hash_read-clause-seen : goal.returns-in-Ok-hash_read-clause-seen
returns-in-Ok-hash_read-clause-seen g c =
    let gives = g.S.FileStore.gives in
    let old = g.W.FolderCalls.view c.args.calls.now in
    let new = g.W.FolderCalls.view c.read_ahead.new.calls in
    let view = g.W.FolderCalls.view in
    let shown = g.G.Gate.shown c.args.scanning.now.gate.now g.row.S.Denot g.row.W.Denot in
    let may = MayFindAt gives (ShownSince gives shown view c.args.store.now) (IsTrue g.S.FileStore.keeps) (g.S.FileStore.tree c.args.store.now) in
    let known = take c.read_ahead.new.batch.filled c.read_ahead.new.buffer.items in
    let cuts = c.read_ahead.new.batch.cuts.items in
    let blocks = c.in-Ok-hash_read.blocks.items in
    let is : blocks ≡ map (cut_block known) cuts = c.in-Ok-hash_read.ensures ∙ (λ t. map (cut_block (take c.read_ahead.new.batch.filled (c.deref.ensures.value t))) (c.deref-2.ensures.value t)) in
    let all = c.in-Ok.ensures.seen in (
      all.0,
      all-weaker (IsSeen (HasBytes known cuts) old new may (Fails gives)) (IsSeen (HasBlocks blocks) old new may (Fails gives)) (take all.0 (map (λ (e : Listed). e.name) c.args.entries.now)) c.in-Ok.seen.items
          (λ (n : Name) (s : Seen). seen-weaker (HasBytes known cuts) (HasBlocks blocks) old old new new may may (Fails gives) n s
          (λ p b h. has-blocks known cuts p b h blocks is) (goes-itself old) (goes-itself new) (λ m l f u. u)) all.1,
    )
