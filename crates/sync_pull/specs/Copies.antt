-- How many conflict copies are kept of a name, and which (Syncthing, "Conflicting Changes", maxConflicts).
use Rattle.std.specs.Prelude.{◌≡◌, ◌≢◌, ◌⊎◌, ◌↔◌, ◌-◌, ℕ, true, ℤ, pos, negsuc, ◌≤ℤ◌, List, [], ◌∷◌, length, take, Contains, Option, Some, None, IsNone, Result, Err}
use Rattle.file_store.specs.Asked.{Call, Value, ListAll, Remove, Rename}
use Rattle.file_store.specs.Listings.{AreAscending}
use Rattle.file_store.specs.Names.{Name}
use Rattle.file_store.specs.Trees.{Tree, is_file}
use Rattle.file_store.specs.declared.node.Kind.TheVariants.{File}
use Rattle.file_store.specs.declared.node.Listed.{Listed}
use Rattle.file_store.specs.declared.node.Node.{Node}
use Rattle.file_store.specs.declared.refusal.StoreRefusal.{StoreRefusal}
use Rattle.sync_names.specs.Copies.{IsConflictCopy}
use Rattle.sync_names.specs.Refusal.{refusal}

-- -1 for any number, or at most 1,000
abbrev pub IsMaxConflicts : ℤ → Type 0
IsMaxConflicts most = (negsuc 0 ≤ℤ most) × (most ≤ℤ pos 1000)

-- an older conflict copy of the name: a file under a safe name that is one of a conflict copy, and not that of the new copy
pub record IsOldCopy (n copy : Name) (t : Tree) (q : Name) : Type 0 where
  pub named : IsConflictCopy n q
  pub other : q ≢ copy
  pub safe : IsNone (refusal q)
  pub file : is_file (t.names q) ≡ true

-- all of them, in the order of their bytes
pub record AreOldCopies (n copy : Name) (t : Tree) (copies : List Name) : Type 0 where
  pub order : AreAscending copies
  pub each : (q : Name) → Contains copies q ↔ IsOldCopy n copy t q

-- those that are too many beside the new copy, where so many are kept: the least of them
abbrev pub surplus : ℕ → List Name → List Name
surplus most copies = take (length copies - (most - 1)) copies

-- the store refused the call when it had this
abbrev pub IsRefused : {S : Type 0} → (S → (call : Call) → Result (Value call) StoreRefusal → S → Type 0) → (S → Tree) → Tree → Call → Type 0
IsRefused {S = S} gives tree t call = (old : S) × (tree old ≡ t) × (why : StoreRefusal) × (new : S) × gives old call (Err why) new

-- the store refused to move a file to the name of its copy, at which nothing was
abbrev pub IsCopyRefused : (Tree → Call → Type 0) → Tree → Name → Option Name → Type 0
IsCopyRefused refused t n None = ⊥
IsCopyRefused refused t n (Some copy) = (t.names copy ≡ None) × refused t (Rename n copy)

-- that, when this was at the name; or to move it back, when it was at the name of the copy and nothing at the name
abbrev pub IsMoveRefused : (Tree → Call → Type 0) → Option Node → Name → Name → Type 0
IsMoveRefused refused was n copy =
    ((t : Tree) × (t.names n ≡ was) × IsCopyRefused refused t n (Some copy))
    ⊎ ((t : Tree) × (t.names copy ≡ was) × (t.names n ≡ None) × refused t (Rename copy n))

-- the store refused to remove what was at the name
abbrev pub IsRemoveRefused : (Tree → Call → Type 0) → Option Node → Name → Type 0
IsRemoveRefused refused was n = (t : Tree) × (t.names n ≡ was) × refused t (Remove n)

-- Nothing changes but that what is at these names is gone; the store may have refused to remove it, as it was.
pub record RemovesFiles (refused : Tree → Call → Type 0) (names : List Name) (old new : Tree) : Type 0 where
  pub temps : new.temps ≡ old.temps
  pub others : (q : Name) → (new.names q ≡ old.names q) ⊎ (Contains names q × (new.names q ≡ None))
  pub gone : (q : Name) → Contains names q → (new.names q ≡ None) ⊎ IsRemoveRefused refused (old.names q) q

-- Older copies are removed until, with the new one, at most so many are left; none of them where any number is kept, or where the
-- store refused to list them.
abbrev pub TrimsCopies : (Tree → Call → Type 0) → ℤ → Name → Name → Tree → Tree → Type 0
TrimsCopies refused (negsuc k) n copy old new = new ≡ old
TrimsCopies refused (pos most) n copy old new =
    (refused old ListAll × (new ≡ old))
    ⊎ ((copies : List Name) × AreOldCopies n copy old copies × RemovesFiles refused (surplus most copies) old new)

-- the entry of a listing is that of an older copy
abbrev pub IsListedCopy : Name → Name → Listed → Type 0
IsListedCopy n copy e = (e.kind ≡ File) × IsConflictCopy n e.name × (e.name ≢ copy)

-- the names of those entries that are of older copies, in their order
abbrev pub AreListedCopies : Name → Name → List Listed → List Name → Type 0
AreListedCopies n copy [] names = names ≡ []
AreListedCopies n copy (e ∷ es) names =
    (IsListedCopy n copy e × (rest : List Name) × (names ≡ e.name ∷ rest) × AreListedCopies n copy es rest)
    ⊎ ((IsListedCopy n copy e → ⊥) × AreListedCopies n copy es names)
