-- Why a store refuses a call, and how it counts its faults (own rule).
use Rattle.std.specs.Prelude.{ℕ, ◌+◌, ◌-◌, ◌^◌, ⊤, min, List, codes, Result, Ok, Err}
use Rattle.file_store.specs.declared.refusal.StoreRefusal.{StoreRefusal}
use Rattle.file_store.specs.declared.refusal.StoreRefusal.TheVariants.{StoreFault, NotEmpty, BadParent, OutOfMemory}

abbrev pub number_of : StoreRefusal → ℕ
number_of StoreFault = 40
number_of NotEmpty = 44
number_of BadParent = 45
number_of OutOfMemory = 33

abbrev pub refusal_name : StoreRefusal → List ℕ
refusal_name StoreFault = codes "StoreFault"
refusal_name NotEmpty = codes "NotEmpty"
refusal_name BadParent = codes "BadParent"
refusal_name OutOfMemory = codes "OutOfMemory"

-- the count of faults after a call: one more after `StoreFault`, up to the greatest value, where it stays
abbrev pub count_after : {X : Type 0} → Result X StoreRefusal → ℕ → ℕ
count_after (Ok x) count = count
count_after (Err StoreFault) count = min (count + 1) (2 ^ 64 - 1)
count_after (Err NotEmpty) count = count
count_after (Err BadParent) count = count
count_after (Err OutOfMemory) count = count

-- a refusal that says nothing of parents, nor of what is in a directory
abbrev pub IsPlain : StoreRefusal → Type 0
IsPlain StoreFault = ⊤
IsPlain NotEmpty = ⊥
IsPlain BadParent = ⊥
IsPlain OutOfMemory = ⊤
