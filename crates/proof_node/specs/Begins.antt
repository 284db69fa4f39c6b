-- Whether a pull was begun, by what it came to.
use Rattle.std.specs.Prelude.{⊤}
use Rattle.file_store.specs.Names.{Name}
use Rattle.folder_calls.specs.Shared.{CallerView, Gets}
use Rattle.folder_core.specs.declared.answer.Answer.TheVariants.{Begun}
use Rattle.folder_core.specs.declared.change.Change.TheVariants.{BeginPull}
use Rattle.folder_core.specs.declared.pull_info.PullInfo.{PullInfo}
use Rattle.sync_pull.specs.Ends.{Ends}
use Rattle.sync_pull.specs.declared.answer.PullAnswer.{PullAnswer}
use Rattle.sync_pull.specs.declared.answer.PullAnswer.TheVariants.{Done, NotNeeded, Busy, Unsupported, LocalMoved, Superseded, Refused, Failed}
use Rattle.sync_pull.specs.declared.answer.PullRefusal.TheVariants.{SequenceFull, HistoryFull, OutOfMemory, Stray}

-- the begin of a pull of the name got a ticket, and what was asked then ended that ticket's pull
abbrev pub HadBegun : Name → CallerView → PullAnswer → CallerView → Type 0
HadBegun n old result new = (t : PullInfo) × (next : CallerView) × Gets old (BeginPull n) (Begun t) next × Ends next t result new

-- answers that tell of a pull that it was begun
abbrev pub TellsOfBegun : PullAnswer → Type 0
TellsOfBegun (Done k) = ⊤
TellsOfBegun NotNeeded = ⊥
TellsOfBegun Busy = ⊥
TellsOfBegun Unsupported = ⊥
TellsOfBegun LocalMoved = ⊤
TellsOfBegun Superseded = ⊤
TellsOfBegun (Refused SequenceFull) = ⊤
TellsOfBegun (Refused HistoryFull) = ⊥
TellsOfBegun (Refused OutOfMemory) = ⊥
TellsOfBegun (Refused Stray) = ⊤
TellsOfBegun (Failed failure) = ⊤
