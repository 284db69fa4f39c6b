-- A scan of all names stops for a fault only where the names are not listed.
use Rattle.std.proofs.Common.{◌≡◌, ℕ, ◌-◌, ◌<◌, ◌≤◌, List, [], ◌∷◌, Option, Some, None, inl, inr, ⊎_elim, arith, refl, sym, ap, ◌∙◌}
use Rattle.std.specs.Prelude.{◌^◌, Result, Ok, Err}
use Rattle.std.proofs.lemmas.Bool.{cases_lt}
use Rattle.sync_record.specs.Records.{Name}
use Rattle.folder_core.specs.declared.scan.ScanAnswer.TheVariants.{Recorded, Unchanged, Moved, Busy}
use Rattle.folder_calls.specs.Shared.{CallerView}
use Rattle.folder_calls.specs.declared.refusal.ScanRefusal.TheVariants.{CounterFull, SequenceFull, HistoryFull}
use Rattle.file_store.specs.Asked.{ListAll}
use Rattle.file_store.specs.Refusals.{IsPlain, count_after}
use Rattle.file_store.specs.Stores.{MemGives, mem_tree}
use Rattle.file_store.specs.declared.mem.MemStore.{MemStore}
use Rattle.file_store.specs.declared.node.Listing.{Listing}
use Rattle.file_store.specs.declared.refusal.StoreRefusal.{StoreRefusal}
use Rattle.file_store.specs.declared.refusal.StoreRefusal.TheVariants.{StoreFault, NotEmpty, BadParent, OutOfMemory}
use Rattle.sync_scan.specs.AllNames.{ScansAll, Tried, sum_after}
use Rattle.sync_scan.specs.AllNames.ScansAll.{not_listed, not_read, scanned, stopped}
use Rattle.sync_scan.specs.Stops.{IsFaultCounted, counted, empty_sum, stop_by}
use Rattle.sync_scan.specs.declared.scanned.Look.{Look}
use Rattle.sync_scan.specs.declared.scanned.Scanned.{Scanned}
use Rattle.sync_scan.specs.declared.scanned.Scanned.TheVariants.{Answered, Skipped, Changing}
use Rattle.sync_scan.specs.declared.sum.ScanStop.{ScanStop}
use Rattle.sync_scan.specs.declared.sum.ScanStop.TheVariants as stop
use Rattle.sync_scan.specs.declared.sum.ScanSum.{ScanSum}

pub memory-apart : ◌≡◌ {A = Option ScanStop} (Some stop.OutOfMemory) (Some stop.StoreFault) → ⊥
memory-apart e = absurd (cc)

-- the scan of a name stops it for no fault
counted-fault : (sum : ScanSum) (r : Result Scanned StoreRefusal) → (sum.stopped ≡ Some stop.StoreFault → ⊥) → (counted sum r).stopped ≡ Some stop.StoreFault → ⊥
counted-fault sum (Ok (Answered (Ok (Recorded k)))) apart e = apart e
counted-fault sum (Ok (Answered (Ok Unchanged))) apart e = apart e
counted-fault sum (Ok (Answered (Ok (Moved now)))) apart e = apart e
counted-fault sum (Ok (Answered (Ok Busy))) apart e = apart e
counted-fault sum (Ok (Answered (Err CounterFull))) apart e = apart e
counted-fault sum (Ok (Answered (Err SequenceFull))) apart e = absurd (cc)
counted-fault sum (Ok (Answered (Err HistoryFull))) apart e = absurd (cc)
counted-fault sum (Ok Skipped) apart e = apart e
counted-fault sum (Ok Changing) apart e = apart e
counted-fault sum (Err StoreFault) apart e = apart e
counted-fault sum (Err NotEmpty) apart e = apart e
counted-fault sum (Err BadParent) apart e = apart e
counted-fault sum (Err OutOfMemory) apart e = absurd (cc)

sum-fault : (tried : List Tried) (sum : ScanSum) → (sum.stopped ≡ Some stop.StoreFault → ⊥) → (sum_after sum tried).stopped ≡ Some stop.StoreFault → ⊥
sum-fault [] sum apart e = apart e
sum-fault (t ∷ ts) sum apart e = sum-fault ts (counted sum t.1) (counted-fault sum t.1 apart) e

pub none-apart : ◌≡◌ {A = Option ScanStop} None (Some stop.StoreFault) → ⊥
none-apart e = absurd (cc)

-- nor do those of several names
pub after-fault : (tried : List Tried) (first sum : ScanSum) → sum ≡ sum_after first tried → (first.stopped ≡ Some stop.StoreFault → ⊥) → sum.stopped ≡ Some stop.StoreFault → ⊥
after-fault tried first sum is apart e = sum-fault tried first apart (ap (λ (s : ScanSum). s.stopped) (sym is) ∙ e)

-- a store that cannot list its names counts a fault
pub list-fault : (refusal : StoreRefusal) (before after : ℕ) → IsPlain refusal → Some (stop_by refusal) ≡ Some stop.StoreFault → after ≡ count_after {X = Listing} (Err refusal) before
    → IsFaultCounted before after
list-fault StoreFault before after plain e is =
    ⊎_elim (λ (lt : before < 2 ^ 64 - 1). inl (omega (arith, is))) (λ (le : 2 ^ 64 - 1 ≤ before). inr (omega (arith, is))) (cases_lt before (2 ^ 64 - 1))
list-fault NotEmpty before after plain e is = absurd plain
list-fault BadParent before after plain e is = absurd plain
list-fault OutOfMemory before after plain e is = absurd (cc)

-- a store in memory fails no call
pub memory-lists : (old new : MemStore) (refusal : StoreRefusal) → IsPlain refusal → MemGives (mem_tree old) ListAll (Err refusal) (mem_tree new) → stop_by refusal ≡ stop.StoreFault → ⊥
memory-lists old new StoreFault plain gives e = gives.0.failed refl
memory-lists old new NotEmpty plain gives e = absurd plain
memory-lists old new BadParent plain gives e = absurd plain
memory-lists old new OutOfMemory plain gives e = absurd (cc)

pub memory-scans : (lists : Result Listing StoreRefusal → Type 0) (may : Name → CallerView → Look → Type 0) (fails : Name → StoreRefusal → Type 0) (old new : CallerView) (moment : ℕ) (sum : ScanSum)
    → ((refusal : StoreRefusal) → lists (Err refusal) → stop_by refusal ≡ stop.StoreFault → ⊥) → ScansAll lists may fails old moment sum new → sum.stopped ≡ Some stop.StoreFault → ⊥
memory-scans lists may fails old new moment sum never (not_listed refusal listed same is) e =
    let at : Some (stop_by refusal) ≡ Some stop.StoreFault = sym (ap (λ (s : ScanSum). s.stopped) is) ∙ e in
    let one : stop_by refusal ≡ stop.StoreFault = cc in
    never refusal listed one
memory-scans lists may fails old new moment sum never (stopped listing tried stop listed each over is) e = after-fault tried empty_sum sum is none-apart e
memory-scans lists may fails old new moment sum never (not_read listing tried listed each over is) e = memory-apart (sym (ap (λ (s : ScanSum). s.stopped) is) ∙ e)
memory-scans lists may fails old new moment sum never (scanned listing missing tried later done point stop listed each over sees missed others last is) e =
    after-fault later (sum_after empty_sum tried) sum is (after-fault tried empty_sum (sum_after empty_sum tried) refl none-apart) e
