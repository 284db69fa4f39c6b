-- What a peer is told first of a folder that is shared with it (own rule).
use Rattle.std.specs.Prelude.{◌≡◌, ◌==◌, ℕ, min, if◌then◌else◌}
use Rattle.folder_calls.specs.Shared.{CallerView, Sees, now}
use Rattle.folder_core.specs.Reads.{known}
use Rattle.sync_record.specs.Devices.{Identity}
use Rattle.node_peer.specs.declared.told.Known.{Known}

-- The greatest sequences of this device's records, as far as they are kept, and of the peer's, each as the folder says at a point no earlier than what its
-- caller had seen.
abbrev pub IsKnown : (ℕ → Type 0) → Identity → CallerView → Known → CallerView → Type 0
IsKnown says peer old told new =
    (kept : ℕ) × says kept × (point : CallerView) × Sees old point × (told.own ≡ min (known (now point) old.opening.me) kept)
    × Sees point new × (told.peers ≡ known (now new) peer)

-- of an index with this number, of which records up to a sequence are known; without a number none is counted as received
abbrev pub received : ℕ → ℕ → ℕ
received index known = if index == 0 then 0 else known
