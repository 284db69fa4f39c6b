-- The frames of a folder (own rule).
use Rattle.std.specs.Prelude.{ℤ, pos, true, false, List, [], ◌∷◌, map, Option, Some, None}
use Rattle.index_sender.specs.Pages.{last_sequence}
use Rattle.node_journal.specs.declared.frame.Frame.{Frame}
use Rattle.node_journal.specs.declared.part.Part.{Part}
use Rattle.node_journal.specs.declared.plan.Plan.{Plan}
use Rattle.node_saver.specs.declared.frames.SavedFolder.{SavedFolder}
use Rattle.sync_record.specs.Infos.{info_of}
use Rattle.sync_record.specs.Records.{FileRecord}

-- the sequence of the last record, or 0
abbrev pub last_of : List FileRecord → ℤ
last_of rs = pos (last_sequence 0 rs)

-- a frame of one folder, which other frames are to follow
abbrev pub frame_of : Part → Frame
frame_of part = record { is_whole = false; folders = part ∷ []; mark = [] }

-- the records of a page
abbrev pub records_frame : SavedFolder → List FileRecord → Frame
records_frame f rs = frame_of (record { id = f.id; index_id = f.index_id; last = last_of rs; records = map info_of rs; plans = [] })

-- pulls that may put their targets in place once the frame is kept
abbrev pub plans_frame : SavedFolder → List Plan → Frame
plans_frame f plans = frame_of (record { id = f.id; index_id = f.index_id; last = pos 0; records = []; plans = plans })

-- a pull over this local record, or over none
abbrev pub plan_over : Option FileRecord → FileRecord → Plan
plan_over None target = record { has_base = false; base = record { counters = [] }; target = info_of target }
plan_over (Some base) target = record { has_base = true; base = (info_of base).version; target = info_of target }

-- the frames before it count from then on
abbrev pub closing_frame : Frame
closing_frame = record { is_whole = true; folders = []; mark = [] }
