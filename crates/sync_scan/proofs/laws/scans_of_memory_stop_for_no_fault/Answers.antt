use Rattle.std.specs.Prelude.{IsTrue, true}
use Rattle.file_store.specs.Stores.{mem_gives, mem_tree}
use Rattle.sync_scan.specs.AllNames.{HasListed}
use Rattle.sync_scan.specs.Told.{Fails}
use Rattle.sync_scan.proofs.FaultLemmas.{memory-lists, memory-scans}
use Rattle.sync_scan.proofs.laws.scans_of_memory_stop_for_no_fault.Goals as goal

pub returns : goal.returns
returns g c store old new moment sum scans stops =
    memory-scans (HasListed mem_gives (IsTrue true) (mem_tree store) store) g.L.AnyLook.may (Fails mem_gives) old new moment sum
    (λ refusal listed is. memory-lists store listed.0 refusal listed.3 listed.1 is) scans stops
