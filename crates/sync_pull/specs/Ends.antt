-- How a pull ends: what its worker asked of the folder, and the answers that it got (own rule).
use Rattle.std.specs.Prelude.{◌≡◌, ◌⊎◌, false, List, [], ◌∷◌}
use Rattle.sync_record.specs.Records.{Name}
use Rattle.folder_core.specs.Steps.{is_accepted}
use Rattle.folder_core.specs.declared.answer.Answer.{Answer}
use Rattle.folder_core.specs.declared.answer.Answer.TheVariants as answer
use Rattle.folder_core.specs.declared.change.Change.{Change}
use Rattle.folder_core.specs.declared.change.Change.TheVariants.{Abort, BeginPull, EnterCommit, Finish, GiveUp}
use Rattle.folder_core.specs.declared.pull_info.PullInfo.{PullInfo}
use Rattle.folder_calls.specs.Adds.{Asked}
use Rattle.folder_calls.specs.Shared.{CallerView, Gets}
use Rattle.folder_calls.specs.declared.pull.EnterRefusal.{EnterRefusal}
use Rattle.folder_calls.specs.declared.pull.EnterRefusal.TheVariants as enter
use Rattle.sync_pull.specs.Chains.{AsksAndSees}
use Rattle.sync_pull.specs.declared.answer.PullAnswer.{PullAnswer}
use Rattle.sync_pull.specs.declared.answer.PullAnswer.TheVariants.{Done, NotNeeded, Busy, Unsupported, LocalMoved, Superseded, Refused, Failed}
use Rattle.sync_pull.specs.declared.answer.Stop.{Stop}
use Rattle.sync_pull.specs.declared.answer.Stop.TheVariants as stop
use Rattle.sync_pull.specs.declared.answer.PullRefusal.TheVariants.{SequenceFull, HistoryFull, OutOfMemory, Stray}

-- the change closed the pull, and the answer is this one; or it was stray, and the answer says so
abbrev pub Closes : CallerView → Change → PullAnswer → PullAnswer → CallerView → Type 0
Closes old c given result new =
    ((result ≡ given) × Gets old c answer.Closed new) ⊎ ((result ≡ Refused Stray) × Gets old c answer.Stray new)

abbrev pub enters : PullInfo → Asked
enters t = (EnterCommit t, answer.Entered t)

abbrev pub finishes : PullInfo → Answer → Asked
finishes t a = (Finish t t.target, a)

-- the commit was refused so, and the pull given up
abbrev pub refused_by : PullInfo → Answer → List Asked
refused_by t a = (EnterCommit t, a) ∷ (GiveUp t, answer.Closed) ∷ []

-- the pull was given up before its commit, at once or when memory was out, or aborted after its commit was entered
abbrev pub IsClosed : PullInfo → List Asked → Type 0
IsClosed t asked = (asked ≡ (GiveUp t, answer.Closed) ∷ []) ⊎ (asked ≡ enters t ∷ (Abort t, answer.Closed) ∷ [])

-- the ticket or the commit was stray where the commit was to be entered or the pull was to be ended
abbrev pub IsStray : PullInfo → List Asked → Type 0
IsStray t asked =
    (asked ≡ (EnterCommit t, answer.Stray) ∷ [])
    ⊎ ((asked ≡ (GiveUp t, answer.Stray) ∷ [])
    ⊎ (((a : Answer) × (is_accepted a ≡ false) × (asked ≡ (EnterCommit t, a) ∷ (GiveUp t, answer.Stray) ∷ []))
    ⊎ ((asked ≡ enters t ∷ (Abort t, answer.Stray) ∷ []) ⊎ (asked ≡ enters t ∷ finishes t answer.Stray ∷ []))))

-- what is asked for a pull that was begun, until it comes to this answer
abbrev pub EndsBy : PullInfo → PullAnswer → List Asked → Type 0
EndsBy t (Done k) asked = asked ≡ enters t ∷ finishes t (answer.Done k) ∷ []
EndsBy t NotNeeded asked = ⊥
EndsBy t Busy asked = ⊥
EndsBy t Unsupported asked = ⊥
EndsBy t LocalMoved asked = asked ≡ refused_by t answer.LocalMoved
EndsBy t Superseded asked = asked ≡ refused_by t answer.Superseded
EndsBy t (Refused SequenceFull) asked = asked ≡ refused_by t answer.SequenceFull
EndsBy t (Refused HistoryFull) asked = asked ≡ refused_by t answer.HistoryFull
EndsBy t (Refused OutOfMemory) asked = IsClosed t asked
EndsBy t (Refused Stray) asked = IsStray t asked
EndsBy t (Failed failure) asked = IsClosed t asked

-- a pull that was begun ends so
abbrev pub Ends : CallerView → PullInfo → PullAnswer → CallerView → Type 0
Ends old t result new = (asked : List Asked) × EndsBy t result asked × AsksAndSees old asked new

-- the answer with which a pull is not begun
abbrev pub IsNotBegunBy : PullAnswer → Answer → Type 0
IsNotBegunBy NotNeeded a = a ≡ answer.NotNeeded
IsNotBegunBy Busy a = a ≡ answer.Busy
IsNotBegunBy Unsupported a = a ≡ answer.Unsupported
IsNotBegunBy (Refused HistoryFull) a = a ≡ answer.HistoryFull
IsNotBegunBy result a = ⊥

-- the pull of a name is not begun, as the folder says or because memory is out
abbrev pub IsNotBegun : CallerView → Name → PullAnswer → CallerView → Type 0
IsNotBegun old n result new =
    ((a : Answer) × IsNotBegunBy result a × Gets old (BeginPull n) a new) ⊎ ((result ≡ Refused OutOfMemory) × (new ≡ old))

-- why the pull stops is what it comes to
abbrev pub stopped : Stop → PullAnswer
stopped stop.OutOfMemory = Refused OutOfMemory
stopped (stop.Failed failure) = Failed failure

-- a finish is done, under this sequence, or its commit is stray
abbrev pub Finishes : CallerView → PullInfo → PullAnswer → CallerView → Type 0
Finishes old c (Done k) new = Gets old (Finish c c.target) (answer.Done k) new
Finishes old c (Refused Stray) new = Gets old (Finish c c.target) answer.Stray new
Finishes old c result new = ⊥

-- what is done where a commit is not entered: nothing if the ticket is stray, else the pull is given up
abbrev pub IsRefused : CallerView → EnterRefusal → PullAnswer → CallerView → Type 0
IsRefused old enter.Stray result new = (result ≡ Refused Stray) × (new ≡ old)
IsRefused old (enter.LocalMoved t) result new = Closes old (GiveUp t) LocalMoved result new
IsRefused old (enter.Superseded t) result new = Closes old (GiveUp t) Superseded result new
IsRefused old (enter.SequenceFull t) result new = Closes old (GiveUp t) (Refused SequenceFull) result new
IsRefused old (enter.HistoryFull t) result new = Closes old (GiveUp t) (Refused HistoryFull) result new

-- how a pull ends whose commit was entered: it is finished or aborted, or its commit is stray
abbrev pub EndsCommit : CallerView → PullInfo → PullAnswer → CallerView → Type 0
EndsCommit old c (Done k) new = Gets old (Finish c c.target) (answer.Done k) new
EndsCommit old c (Refused Stray) new = Gets old (Finish c c.target) answer.Stray new ⊎ Gets old (Abort c) answer.Stray new
EndsCommit old c (Refused OutOfMemory) new = Gets old (Abort c) answer.Closed new
EndsCommit old c (Failed failure) new = Gets old (Abort c) answer.Closed new
EndsCommit old c result new = ⊥
