-- What a new journal begins with (own rule).
use Rattle.std.specs.Prelude.{◌≡◌, ℕ, map, List, [], ◌∷◌, ◌++◌}
use Rattle.std.specs.List.{AllZip}
use Rattle.node_journal.specs.Format.{journal_bytes}
use Rattle.node_journal.specs.declared.frame.Frame.{Frame}
use Rattle.node_journal.specs.declared.header.JournalHeader.{JournalHeader}
use Rattle.node_journal.specs.declared.plan.Plan.{Plan}
use Rattle.node_replay.specs.Told.{plan_of}
use Rattle.node_saver.specs.Frames.{closing_frame, plans_frame}
use Rattle.bepd_run.specs.declared.last_run.FolderPlans.{FolderPlans}

-- the frame of a folder's plans, each of which is read again as it is
abbrev pub IsPlansFrame : FolderPlans → Frame → Type 0
IsPlansFrame f frame = (messages : List Plan) × (map plan_of messages ≡ f.plans) × (frame ≡ plans_frame (record { id = f.id; index_id = f.index_id }) messages)

-- frames that count, if there are any
abbrev pub closed : List Frame → List Frame
closed [] = []
closed (f ∷ fs) = (f ∷ fs) ++ closing_frame ∷ []

-- these are the bytes of a journal with a frame for each of these folders
abbrev pub Begins : JournalHeader → List FolderPlans → List ℕ → Type 0
Begins header plans bytes = (frames : List Frame) × AllZip IsPlansFrame plans frames × (bytes ≡ journal_bytes header (closed frames))
