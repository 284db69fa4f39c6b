-- Of the older copies so far, the first were removed.
use Rattle.std.proofs.Common.{◌≡◌, ◌≤◌, List, length, take, true}
use Rattle.file_store.specs.Names.{Name}
use Rattle.file_store.specs.Sequences.{CallsOnly}
use Rattle.sync_pull.specs.Copies.{AreListedCopies, IsRefused, RemovesFiles}
use Rattle.sync_pull.specs.Moments.{IsOfPull}
use Rattle.sync_pull.proofs.old_copies.remove_first.Given as goal

abbrev pub invariant-loop-listed : goal.invariant-loop-listed
invariant-loop-listed g l = record {
  within : l.seen ≤ l.listed-index;
  chosen : (done : List Name) × AreListedCopies l.name l.copy (take l.listed-index l.entries) done × (l.seen ≡ length done)
      × (g.S.FileStore.keeps ≡ true → RemovesFiles (IsRefused g.S.FileStore.gives g.S.FileStore.tree) (take l.surplus done) (g.S.FileStore.tree l.initial.store) (g.S.FileStore.tree l.store));
  calls : (q : Name) → CallsOnly g.S.FileStore.gives (IsOfPull l.name q) l.initial.store l.store;
}
