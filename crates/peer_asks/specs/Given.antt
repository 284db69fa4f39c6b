-- What a source of blocks gives, by what its peers were asked and what came of it (own rule).
use Rattle.std.specs.Prelude.{◌≡◌, ◌⊎◌, ℕ, Bool, true, false, List, Option, Some, None, MatchOption, bytes_eq, slice_get}
use Rattle.std.specs.List.{position}
use Rattle.sync_blocks.specs.declared.block.Block.{Block}
use Rattle.sync_record.specs.Devices.{Identity}
use Rattle.sync_record.specs.Records.{Name}
use Rattle.peer_asks.specs.declared.ask.Ask.{Ask}
use Rattle.peer_asks.specs.declared.fault.AskFault.{AskFault}
use Rattle.peer_asks.specs.declared.fault.AskFault.TheVariants.{OutOfMemory}

abbrev pub is_out_of_memory : AskFault → Bool
is_out_of_memory OutOfMemory = true
is_out_of_memory _ = false

-- the device was asked for this block of this file
pub record IsFor (device : Identity) (n : Name) (block : Block) (ask : Ask) : Type 0 where
  pub device_is : ask.device ≡ device
  pub name_is : ask.name ≡ n
  pub block_is : ask.block ≡ block

module _ {P : Type 0} (device : P → Identity) (refuses : P → Name → Block → AskFault → Type 0) (brings : P → Ask → Option (List ℕ) → Type 0) where
  -- the peer gave the bytes, or none, of a Request for this block; or it was not asked, for another reason than memory
  abbrev pub GivesOf : P → Name → Block → Bool → List ℕ → Type 0
  GivesOf peer n block true bytes = (ask : Ask) × IsFor (device peer) n block ask × brings peer ask (Some bytes)
  GivesOf peer n block false bytes =
      ((ask : Ask) × IsFor (device peer) n block ask × brings peer ask None) ⊎ ((fault : AskFault) × (is_out_of_memory fault ≡ false) × refuses peer n block fault)

  -- the first of the peers that is the device gave them; none where no peer is
  abbrev pub GivesBlock : List P → Identity → Name → Block → Bool → List ℕ → Type 0
  GivesBlock peers id n block given bytes =
      MatchOption (position (λ p. bytes_eq (device p) id) peers) (given ≡ false)
      (λ k. (peer : P) × (slice_get peers k ≡ Some peer) × GivesOf peer n block given bytes)
