-- What a source gives of a block, by the peer that it asked.
use Rattle.std.proofs.Common.{◌≡◌, ℕ, Bool, true, false, List, inl, sym, subst}
use Rattle.std.specs.Prelude.{MatchBool, MatchOption, Option, Some, None, bytes_eq, slice_get}
use Rattle.std.specs.List.{position}
use Rattle.std.specs.Global.{Vec}
use Rattle.sync_blocks.specs.declared.block.Block.{Block}
use Rattle.sync_record.specs.Devices.{Identity}
use Rattle.sync_record.specs.Records.{Name}
use Rattle.peer_asks.specs.Given.{GivesBlock, GivesOf, IsFor}
use Rattle.peer_asks.specs.declared.ask.Ask.{Ask}
use Rattle.peer_asks.specs.declared.fault.AskFault.{AskFault}

module _ {P : Type 0} (device : P → Identity) (refuses : P → Name → Block → AskFault → Type 0) (brings : P → Ask → Option (List ℕ) → Type 0) where
  -- by what came of its Request
  pub of_wait : (peer : P) (n : Name) (block : Block) (ask : Ask) (given : Bool) (before after : Vec ℕ) → IsFor (device peer) n block ask
      → MatchBool given (brings peer ask (Some after.items)) ((after.items ≡ before.items) × brings peer ask None) → GivesOf device refuses brings peer n block given after.items
  of_wait peer n block ask true before after is came = (ask, is, came)
  of_wait peer n block ask false before after is came = inl (ask, is, came.1)

  pub of_peer : (peers : List P) (id : Identity) (n : Name) (block : Block) (given : Bool) (bytes : List ℕ) (k : ℕ) (peer : P) → position (λ p. bytes_eq (device p) id) peers ≡ Some k
      → slice_get peers k ≡ Some peer → GivesOf device refuses brings peer n block given bytes → GivesBlock device refuses brings peers id n block given bytes
  of_peer peers id n block given bytes k peer found at gives =
      subst (λ o. MatchOption o (given ≡ false) (λ k. (p : P) × (slice_get peers k ≡ Some p) × GivesOf device refuses brings p n block given bytes)) (sym found) (peer, at, gives)
