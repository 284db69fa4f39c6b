-- The fields of the messages of a journal in the order of their tables, and the message that has these.
use Rattle.std.specs.Prelude.{◌≡◌, map, refl}
use Rattle.bep_messages.specs.Structs.{file_info, file_info_parts, vector, vector_parts}
use Rattle.bep_messages.specs.Tables.{Values}
use Rattle.bep_messages.specs.Wholes.{file_info_whole, map_back, vector_whole}
use Rattle.node_journal.specs.declared.frame.Frame.{Frame}
use Rattle.node_journal.specs.declared.part.Part.{Part}
use Rattle.node_journal.specs.declared.plan.Plan.{Plan}
use Rattle.node_journal.specs.Tables.{frame_table, part_table, plan_table}

abbrev pub plan_parts : Plan → Values plan_table
plan_parts p = (p.has_base, (vector_parts p.base, (file_info_parts p.target, tt)))

abbrev pub plan_of : Values plan_table → Plan
plan_of (has_base, (base, (target, none))) = record { has_base = has_base; base = vector base; target = file_info target }

pub plan_whole : (p : Plan) → plan_of (plan_parts p) ≡ p
plan_whole p = rw (vector_whole p.base, file_info_whole p.target) refl

abbrev pub part_parts : Part → Values part_table
part_parts p = (p.id, (p.index_id, (p.last, (map file_info_parts p.records, (map plan_parts p.plans, tt)))))

abbrev pub part_of : Values part_table → Part
part_of (id, (index_id, (last, (records, (plans, none))))) =
    record { id = id; index_id = index_id; last = last; records = map file_info records; plans = map plan_of plans }

pub part_whole : (p : Part) → part_of (part_parts p) ≡ p
part_whole p = rw (map_back file_info_parts file_info file_info_whole p.records, map_back plan_parts plan_of plan_whole p.plans) refl

abbrev pub frame_parts : Frame → Values frame_table
frame_parts f = (f.is_whole, (map part_parts f.folders, (f.mark, tt)))

abbrev pub frame_of : Values frame_table → Frame
frame_of (is_whole, (folders, (mark, none))) = record { is_whole = is_whole; folders = map part_of folders; mark = mark }

pub frame_whole : (f : Frame) → frame_of (frame_parts f) ≡ f
frame_whole f = rw (map_back part_parts part_of part_whole f.folders) refl
