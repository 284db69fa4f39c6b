use Rattle.std.proofs.Common.{refl, subst, take}
use Rattle.std.specs.Prelude.{IsTrue}
use Rattle.file_store.specs.Sequences.{Since, not_called}
use Rattle.sync_scan.specs.Ahead.{HasBytes, Knows, SightIs}
use Rattle.sync_scan.specs.Looks.{MayFind, MayFindAt, ShownSince}
use Rattle.sync_scan.specs.Told.{Fails}
use Rattle.sync_scan.proofs.OnLemmas.{goes-itself, sees-goes}
use Rattle.sync_scan.proofs.ScanLemmas.{read-local}
use Rattle.sync_scan.proofs.SeenLemmas.{sight-weaker}
use Rattle.sync_scan.proofs.ahead.see.Goals as goal

pub returns-clause-seen : goal.returns-clause-seen
returns-clause-seen g c =
    let gives = g.S.FileStore.gives in
    let keeps = IsTrue g.S.FileStore.keeps in
    let tree = g.S.FileStore.tree c.args.store.now in
    let n = c.args.name.now in
    let start = c.args.store.now in
    let view = g.W.FolderCalls.view in
    let shown = g.G.Gate.shown c.args.gate.now g.row.S.Denot g.row.W.Denot in
    let may = MayFindAt gives (ShownSince gives shown view start) keeps tree n in
    let old = view c.args.calls.now in
    let new = view c.local.new.self in
    let has = HasBytes (take c.sight_of.new.batch.filled c.sight_of.new.buffer.items) c.sight_of.new.batch.cuts.items in
    let known = c.in_ok-local.field-0.value in
    let reads = c.in_ok-local.ensures.reads in
    let is = read-local old new n c.in_ok-local.field-0 reads in
    sight-weaker has has (MayFind (Since gives start) keeps tree n known) (Knows old new n may known) (Fails gives n) c.in_ok-sight.sight (λ p b h. h)
    (λ l found. record {
      read = new;
      since = sees-goes old new reads.sees;
      until = goes-itself new;
      is = is;
      may_be = (start, (not_called, (c.local.new.self, c.show.ensures.shown, refl)), subst (λ k. MayFind (Since gives start) keeps tree n k l) is found);
    })
    (subst (λ k. SightIs has (MayFind (Since gives start) keeps tree n k) (Fails gives n) c.in_ok-sight.sight) c.as_ref.ensures.value (c.in_ok-sight.ensures.sight start not_called))

pub returns-in_err-local-clause-looks : goal.returns-in_err-local-clause-looks
returns-in_err-local-clause-looks g c = not_called
