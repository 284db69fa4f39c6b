-- What reading a part of a file comes to (own rule).
use Rattle.std.specs.Prelude.{◌≡◌, ◌⊎◌, ℕ, ◌<◌, ◌≤◌, Bool, true, List, length, take, drop, Option, Some, None}
use Rattle.block_server.specs.Served.{one_fault_more}

-- All bytes of the part. Or none: the store failed, or has fewer there, which only a part of at least one byte can meet.
abbrev pub ReadsPart : Bool → ℕ → ℕ → List ℕ → ℕ → Option (List ℕ) → ℕ → Type 0
ReadsPart keeps offset size file faults (Some bytes) after =
    (length bytes ≡ size) × (keeps ≡ true → bytes ≡ take size (drop offset file)) × (after ≡ faults)
ReadsPart keeps offset size file faults None after =
    (after ≡ one_fault_more faults)
    ⊎ ((after ≡ faults) × (1 ≤ size) × (keeps ≡ true → length (take size (drop offset file)) < size))
