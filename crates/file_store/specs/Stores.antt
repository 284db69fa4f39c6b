-- What a store in memory has (own rule).
use Rattle.std.specs.Prelude.{◌≡◌, ◌≢◌, ℕ, ◌<◌, ◌+◌, ◌-◌, [], length, min, unwrap_or, None, IsNone, IsSome, Result, Ok, Err, IfOk}
use Rattle.file_store.specs.Asked.{Call, Value, ListAll, StatAt, ReadAt, MakeTemp, WriteAt, CommitTemp, DropTemp, Rename, Remove, MakeDir, RemoveDir}
use Rattle.file_store.specs.Calls.{Does, IsAllowed, MakeTempRefused, WriteRefused, CommitRefused, RenameRefused, MakeDirRefused, committed, stat_of}
use Rattle.file_store.specs.declared.mem.MemStore.{MemStore}
use Rattle.file_store.specs.declared.refusal.StoreRefusal.{StoreRefusal}
use Rattle.file_store.specs.declared.refusal.StoreRefusal.TheVariants.{OutOfMemory}
use Rattle.file_store.specs.Maps.{found_at}
use Rattle.file_store.specs.Names.{Name}
use Rattle.file_store.specs.Trees.{Tree, bytes_of, tree_of}

abbrev pub mem_tree : MemStore → Tree
mem_tree s = tree_of (found_at s.names) (found_at s.temps)

-- how many faults it has returned
abbrev pub mem_faults : MemStore → ℕ
mem_faults s = s.faults

-- nothing is there
abbrev pub empty_tree : Tree
empty_tree = tree_of (λ q. None) (λ q. None)

-- A store in memory looks, and reads all that there is, whatever memory is left, and drops. It runs out of memory only in a call that
-- nothing refuses and that has to allocate.
abbrev pub MemRunsOut : Tree → (call : Call) → Result (Value call) StoreRefusal → Tree → Type 0
MemRunsOut old ListAll result new = result ≡ Err OutOfMemory → (q : Name) × IsSome (old.names q)
MemRunsOut old (StatAt n) result new = result ≡ Ok (stat_of (old.names n))
MemRunsOut old (ReadAt n offset before after) result new = result ≡ Ok (min (length before) (length (bytes_of (old.names n)) - offset))
MemRunsOut old (MakeTemp n) result new = result ≡ Err OutOfMemory → IsAllowed (MakeTempRefused old n) × IsNone (old.temps n)
MemRunsOut old (WriteAt n offset piece) result new =
    result ≡ Err OutOfMemory → IsAllowed (WriteRefused old n) × (piece ≢ []) × (length (unwrap_or (old.temps n) []) < offset + length piece)
MemRunsOut old (CommitTemp n) result new =
    IfOk result (λ _. new ≡ committed old n 0) × (result ≡ Err OutOfMemory → IsAllowed (CommitRefused old n) × IsNone (old.names n))
MemRunsOut old (DropTemp n) result new = result ≡ Ok tt
MemRunsOut old (Rename from to) result new = result ≡ Err OutOfMemory → IsAllowed (RenameRefused old from to)
MemRunsOut old (Remove n) result new = result ≢ Err OutOfMemory
MemRunsOut old (MakeDir n) result new = result ≡ Err OutOfMemory → IsAllowed (MakeDirRefused old n)
MemRunsOut old (RemoveDir n) result new = result ≢ Err OutOfMemory

-- What a store in memory gives: each call does what its definition says, and no fault has a reason outside the tree.
abbrev pub MemGives : Tree → (call : Call) → Result (Value call) StoreRefusal → Tree → Type 0
MemGives old call result new = Does ⊥ old call result new × MemRunsOut old call result new

-- the same of the store itself
abbrev pub mem_gives : MemStore → (call : Call) → Result (Value call) StoreRefusal → MemStore → Type 0
mem_gives = λ old call result new. MemGives (mem_tree old) call result (mem_tree new)
