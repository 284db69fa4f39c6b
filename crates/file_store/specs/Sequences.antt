-- Calls of a store one after another, by the store's own answers (own rule).
use Rattle.std.specs.Prelude.{◌≡◌, ◌⊎◌, ⊤, ℕ, List, Result}
use Rattle.file_store.specs.Asked.{Call, Value, ListAll, StatAt, ReadAt, MakeTemp, WriteAt, CommitTemp, DropTemp, Rename, Remove, MakeDir, RemoveDir}
use Rattle.file_store.specs.Names.{Name}
use Rattle.file_store.specs.declared.refusal.StoreRefusal.{StoreRefusal}

-- The store was called again and again, each time by a call of this kind, and by no other: how it was, and how it is then.
pub data CallsOnly {S : Type 0} (gives : S → (call : Call) → Result (Value call) StoreRefusal → S → Type 0) (kind : Call → Type 0) (old : S) : S → Type 0 where
  not_called : CallsOnly gives kind old old
  called : (asked new : S) (call : Call) (answer : Result (Value call) StoreRefusal) → CallsOnly gives kind old asked → kind call
      → gives asked call answer new → CallsOnly gives kind old new

-- a call that changes nothing: it asks what is there
abbrev pub IsLook : Call → Type 0
IsLook ListAll = ⊤
IsLook (StatAt n) = ⊤
IsLook (ReadAt n offset before after) = ⊤
IsLook (MakeTemp n) = ⊥
IsLook (WriteAt n offset piece) = ⊥
IsLook (CommitTemp n) = ⊥
IsLook (DropTemp n) = ⊥
IsLook (Rename from to) = ⊥
IsLook (Remove n) = ⊥
IsLook (MakeDir n) = ⊥
IsLook (RemoveDir n) = ⊥

-- a look, or a call that makes, writes or removes the temporary file of this name
abbrev pub IsOfTemp : Name → Call → Type 0
IsOfTemp n ListAll = ⊤
IsOfTemp n (StatAt m) = ⊤
IsOfTemp n (ReadAt m offset before after) = ⊤
IsOfTemp n (MakeTemp m) = m ≡ n
IsOfTemp n (WriteAt m offset piece) = m ≡ n
IsOfTemp n (CommitTemp m) = ⊥
IsOfTemp n (DropTemp m) = m ≡ n
IsOfTemp n (Rename from to) = ⊥
IsOfTemp n (Remove m) = ⊥
IsOfTemp n (MakeDir m) = ⊥
IsOfTemp n (RemoveDir m) = ⊥

-- nothing but looks
abbrev pub LooksOnly : {S : Type 0} → (S → (call : Call) → Result (Value call) StoreRefusal → S → Type 0) → S → S → Type 0
LooksOnly gives old new = CallsOnly gives IsLook old new

-- what the store gives since it was so, with nothing but looks in between
abbrev pub Since : {S : Type 0} → (S → (call : Call) → Result (Value call) StoreRefusal → S → Type 0) → S → S → (call : Call) → Result (Value call) StoreRefusal → S → Type 0
Since gives old asked call answer new = LooksOnly gives old asked × gives asked call answer new
