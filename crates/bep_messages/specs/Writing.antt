-- A vector of bytes while messages are appended to it.
use Rattle.std.specs.Prelude.{◌≡◌, ◌+◌, ◌<◌, ◌≤◌, ℕ, List, ◌++◌, length}

-- the bytes that it had, those that were written after them, and its capacity
pub record Writing : Type 0 where
  pub kept : List ℕ
  pub written : List ℕ
  pub capacity : ℕ

-- its length
unfoldable pub len : Writing → ℕ
len w = length w.kept + length w.written

-- new is old, and then the row
pub record Adds (old : Writing) (row : List ℕ) (new : Writing) : Type 0 where
  pub ok : new.written ≡ old.written ++ row
  pub kept : new.kept ≡ old.kept
  pub longer : len new ≡ len old + length row
  pub capacity : old.capacity ≤ new.capacity

-- old had no room for the row; new has the bytes that old kept, and any others after them
pub record Lacks (old : Writing) (row : List ℕ) (new : Writing) : Type 0 where
  pub full : old.capacity < len old + length row
  pub kept : new.kept ≡ old.kept
  pub capacity : old.capacity ≤ new.capacity
