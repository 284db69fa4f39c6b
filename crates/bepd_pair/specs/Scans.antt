-- What `scan P` comes to (own rule): one scan of all names of the peer's store over its folder.
use Rattle.std.specs.Prelude.{◌≡◌, ⊤, ℕ, true, List, ◌++◌, Some, None, Result, Ok, Err, IsTrue}
use Rattle.file_store.specs.Stores.{mem_gives, mem_tree}
use Rattle.folder_calls.specs.LoneStates.{seen_by}
use Rattle.sync_scan.specs.AllNames.{HasListed, ScansAll}
use Rattle.sync_scan.specs.Looks.{MayFindAt, ShownSince}
use Rattle.sync_scan.specs.Told.{Fails}
use Rattle.sync_scan.specs.declared.sum.ScanSum.{ScanSum}
use Rattle.bepd_pair.specs.declared.command.Side.{Side}
use Rattle.bepd_pair.specs.declared.peer.Peer.{Peer}
use Rattle.bepd_pair.specs.declared.refused.Refused.{Refused}
use Rattle.bepd_pair.specs.declared.refused.Refused.TheVariants.{Scan, OutOfMemory}
use Rattle.bepd_pair.specs.Lines.{scan_line}

-- all names were scanned at the moment, and this came of it; the store has what it had
pub record ScansPeer (old : Peer) (moment : ℕ) (sum : ScanSum) (new : Peer) : Type 0 where
  pub scans : ScansAll (HasListed mem_gives (IsTrue true) (mem_tree old.store) old.store)
      (MayFindAt mem_gives (ShownSince mem_gives (λ s w. ⊤) seen_by old.store) (IsTrue true) (mem_tree old.store)) (Fails mem_gives)
      (seen_by old.calls) moment sum (seen_by new.calls)
  pub kept : mem_tree new.store ≡ mem_tree old.store
  pub others : new ≡ record old { store = new.store; calls = new.calls }

-- the line of the counts is printed; where something stopped the scan, it is refused by that
abbrev pub TellsSum : Side → ScanSum → List ℕ → Result (Unit {0}) Refused → List ℕ → Type 0
TellsSum side sum old (Ok _) new = (sum.stopped ≡ None) × (new ≡ old ++ scan_line side sum)
TellsSum side sum old (Err (Scan stop)) new = (sum.stopped ≡ Some stop) × (new ≡ old)
TellsSum side sum old (Err OutOfMemory) new = ⊤
TellsSum side sum old (Err _) new = ⊥
