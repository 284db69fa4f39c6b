-- What a store itself says of a name and gives of a file, whether it keeps what is written or not (own rule).
use Rattle.std.specs.Prelude.{◌≡◌, ◌≢◌, ◌⊎◌, ◌+◌, ◌<◌, ◌≤◌, ℕ, true, List, [], ◌∷◌, ◌++◌, length, IsNone, Result, Ok, Err}
use Rattle.sync_names.specs.Refusal.{refusal}
use Rattle.file_store.specs.Asked.{Call, Value, StatAt, ReadAt}
use Rattle.file_store.specs.FullReads.{FillsAll}
use Rattle.file_store.specs.Names.{Name, is_parent}
use Rattle.file_store.specs.declared.node.Stat.{Stat}
use Rattle.file_store.specs.declared.node.Stat.TheVariants as stat
use Rattle.file_store.specs.declared.refusal.StoreRefusal.{StoreRefusal}
use Rattle.file_store.specs.declared.refusal.StoreRefusal.TheVariants.{StoreFault, OutOfMemory}

-- what each call of a store gives: the store before, the call, its answer, and the store after
abbrev pub Giving : Type 0 → Type 1
Giving S = S → (call : Call) → Result (Value call) StoreRefusal → S → Type 0

-- the store was asked what is at the name, and said this
abbrev pub Says : {S : Type 0} → Giving S → Name → Stat → Type 0
Says {S} gives n said = (asked : S) × (new : S) × gives asked (StatAt n) (Ok said) new

-- something that is neither a file nor a directory is in the place of a parent
abbrev pub HasOtherParent : {S : Type 0} → Giving S → Name → Type 0
HasOtherParent gives n = (p : Name) × (is_parent p n ≡ true) × Says gives p stat.Other

-- the store was asked for each parent of which the name is safe, and said of none that it is neither a file nor a directory
abbrev pub HasNoOtherParent : {S : Type 0} → Giving S → Name → Type 0
HasNoOtherParent gives n =
    (p : Name) → is_parent p n ≡ true → IsNone (refusal p) → (said : Stat) × (said ≢ stat.Other) × Says gives p said

-- The first bytes of a file, read in parts one after the other.
pub data ReadsParts {S : Type 0} (gives : Giving S) (n : Name) : List ℕ → Type 0 where
  no_part : ReadsParts gives n []
  one_more : (bytes before part : List ℕ) (asked new : S) → ReadsParts gives n bytes
      → FillsAll gives n (length bytes) asked before (Ok (length part)) new part → ReadsParts gives n (bytes ++ part)

-- all bytes of a file: no byte is after those that were read
pub record ReadsWhole {S : Type 0} (gives : Giving S) (n : Name) (bytes : List ℕ) : Type 0 where
  pub parts : ReadsParts gives n bytes
  pub asked : S
  pub new : S
  pub after : List ℕ
  pub none : FillsAll gives n (length bytes) asked (0 ∷ []) (Ok 0) new after

-- A file that has not so many bytes: it ends within a part, or a byte more is there.
pub data ReadsOther {S : Type 0} (gives : Giving S) (n : Name) (size : ℕ) : Type 0 where
  less : (offset count : ℕ) (before after : List ℕ) (asked new : S) → FillsAll gives n offset asked before (Ok count) new after
      → count < length before → offset + length before ≤ size → ReadsOther gives n size
  more : (count : ℕ) (after : List ℕ) (asked new : S) → FillsAll gives n size asked (0 ∷ []) (Ok count) new after → 1 ≤ count
      → ReadsOther gives n size

-- Why a name is not looked at to the end: the store failed where it was asked for the name or a parent, or memory is out.
pub data Fails {S : Type 0} (gives : Giving S) (n : Name) : StoreRefusal → Type 0 where
  no_stat : (p : Name) (asked new : S) → (p ≡ n) ⊎ (is_parent p n ≡ true) → gives asked (StatAt p) (Err StoreFault) new → Fails gives n StoreFault
  no_read : (offset : ℕ) (before after : List ℕ) (asked new : S) → gives asked (ReadAt n offset before after) (Err StoreFault) new → Fails gives n StoreFault
  no_memory : Fails gives n OutOfMemory
