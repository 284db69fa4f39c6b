-- The blocks so far were put and are in the temporary file, nothing else changed, and no fault was counted; the caller only saw the history go on.
use Rattle.std.proofs.Common.{◌≡◌, ◌-◌, ◌≤◌, true, take, length}
use Rattle.std.specs.Prelude.{Some, []}
use Rattle.file_store.specs.Calls.{ChangesTemp}
use Rattle.file_store.specs.Sequences.{CallsOnly, IsOfTemp}
use Rattle.folder_calls.specs.Shared.{Sees}
use Rattle.sync_pull.specs.Fetching.{ArePut, HoldsBlocks}
use Rattle.sync_pull.proofs.fetch.fetch_blocks.Given as goal

abbrev pub invariant-loop-done : goal.invariant-loop-done
invariant-loop-done g l = record {
  target : l.draft.assembly.target ≡ l.initial.draft.assembly.target;
  put : ArePut l.done l.draft.assembly;
  within : l.done ≤ length l.initial.draft.assembly.target.blocks;
  folder : g.W.FolderCalls.folder l.calls ≡ g.W.FolderCalls.folder l.initial.calls;
  sees : Sees (g.W.FolderCalls.view l.initial.calls) (g.W.FolderCalls.view l.calls);
  held : g.S.FileStore.keeps ≡ true → (g.S.FileStore.tree l.initial.store).temps l.fetch.name.now ≡ Some []
      → HoldsBlocks (take l.done l.initial.draft.assembly.target.blocks) l.fetch.name.now (g.S.FileStore.tree l.store);
  counted : g.S.FileStore.fault_count l.store ≡ g.S.FileStore.fault_count l.initial.store;
  temp : g.S.FileStore.keeps ≡ true → ChangesTemp (g.S.FileStore.tree l.initial.store) l.fetch.name.now (g.S.FileStore.tree l.store);
  calls : CallsOnly g.S.FileStore.gives (IsOfTemp l.fetch.name.now) l.initial.store l.store;
}

abbrev pub decreases-loop-done : goal.decreases-loop-done
decreases-loop-done g l = l.count - l.done
