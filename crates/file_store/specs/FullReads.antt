-- What reading until a buffer is full comes to, by the store's own answers (own rule; POSIX.1, `pread`: a read may give fewer bytes).
use Rattle.std.specs.Prelude.{◌≡◌, ℕ, ◌+◌, ◌<◌, ◌≤◌, List, ◌++◌, take, drop, length, Result, Ok, Err}
use Rattle.file_store.specs.declared.refusal.StoreRefusal.{StoreRefusal}
use Rattle.file_store.specs.Asked.{Call, Value, ReadAt}
use Rattle.file_store.specs.Names.{Name}

-- The store was asked again and again for what was still to be filled of the buffer, and each time gave some bytes: how many are
-- filled then, the store, and the buffer.
pub data Fills {S : Type 0} (gives : S → (call : Call) → Result (Value call) StoreRefusal → S → Type 0) (n : Name) (offset : ℕ) (old : S) (before : List ℕ) : ℕ → S → List ℕ → Type 0 where
  not_asked : Fills gives n offset old before 0 old before
  gave : (filled count : ℕ) (asked new : S) (buffer part : List ℕ) → Fills gives n offset old before filled asked buffer
      → gives asked (ReadAt n (offset + filled) (drop filled buffer) part) (Ok count) new → 1 ≤ count → count ≤ length part
      → Fills gives n offset old before (filled + count) new (take filled buffer ++ part)

-- The buffer is filled until it is full, or the store gives nothing more, or refuses.
pub data FillsAll {S : Type 0} (gives : S → (call : Call) → Result (Value call) StoreRefusal → S → Type 0) (n : Name) (offset : ℕ) (old : S) (before : List ℕ) : Result ℕ StoreRefusal → S → List ℕ → Type 0 where
  full : (filled : ℕ) (new : S) (after : List ℕ) → Fills gives n offset old before filled new after → filled ≡ length after
      → FillsAll gives n offset old before (Ok filled) new after
  ended : (filled : ℕ) (asked new : S) (buffer part : List ℕ) → Fills gives n offset old before filled asked buffer → filled < length buffer
      → gives asked (ReadAt n (offset + filled) (drop filled buffer) part) (Ok 0) new
      → FillsAll gives n offset old before (Ok filled) new (take filled buffer ++ part)
  refused : (filled : ℕ) (refusal : StoreRefusal) (asked new : S) (buffer part : List ℕ) → Fills gives n offset old before filled asked buffer
      → filled < length buffer → gives asked (ReadAt n (offset + filled) (drop filled buffer) part) (Err refusal) new
      → FillsAll gives n offset old before (Err refusal) new (take filled buffer ++ part)
