-- What becomes of bytes that are to be written where it may not be waited for long (own rule).
use Rattle.std.specs.Prelude.{◌≡◌, ◌⊎◌, ℕ, true, false, List, ◌++◌, length, take, Option}
use Rattle.std.specs.Io.KnownBytes.{Appends, Keeps}
use Rattle.bepd_run.specs.Losses.{lost, told, to_tell, written}
use Rattle.bepd_run.specs.declared.losses.Losses.{Losses}

-- What was lost before is told, or a front of that.
abbrev pub IsTold : Option (List ℕ) → Option (List ℕ) → Losses → Losses → Type 0
IsTold old new a b = Appends old new (to_tell a) × (b ≡ told a)

abbrev pub IsNotTold : Option (List ℕ) → Option (List ℕ) → Losses → Losses → Type 0
IsNotTold old new a b = (count : ℕ) × Appends old new (take count (to_tell a)) × (b ≡ written a (take count (to_tell a)))

-- a front of the bytes is the rest of a line that was lost, and is lost too
abbrev pub Skips : ℕ → List ℕ → Option (List ℕ) → Option (List ℕ) → Losses → Losses → Type 0
Skips n bytes old new a b = (a.is_cut ≡ true) × Keeps old new × (b ≡ lost a (take n bytes))

-- a front of them is written
abbrev pub Writes : ℕ → List ℕ → Option (List ℕ) → Option (List ℕ) → Losses → Losses → Type 0
Writes n bytes old new a b = (a.is_cut ≡ false) × Appends old new (to_tell a ++ take n bytes) × (b ≡ written (told a) (take n bytes))

-- they are lost
abbrev pub Loses : ℕ → List ℕ → Option (List ℕ) → Option (List ℕ) → Losses → Losses → Type 0
Loses n bytes old new a b = (a.is_cut ≡ false) × (n ≡ length bytes)
    × (mid : Losses) × (IsTold old new a mid ⊎ IsNotTold old new a mid) × (b ≡ lost mid bytes)

abbrev pub IsPut : ℕ → List ℕ → Option (List ℕ) → Option (List ℕ) → Losses → Losses → Type 0
IsPut n bytes old new a b = Skips n bytes old new a b ⊎ Writes n bytes old new a b ⊎ Loses n bytes old new a b
