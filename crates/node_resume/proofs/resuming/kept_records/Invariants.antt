use Rattle.std.proofs.Common.{◌≡◌, take}
use Rattle.std.specs.Prelude.{filter}
use Rattle.node_resume.specs.Resumed.{is_kept}
use Rattle.node_resume.proofs.resuming.kept_records.Given as goal

abbrev pub invariant-loop-announcement : goal.invariant-loop-announcement
invariant-loop-announcement l = l.kept.items ≡ filter (λ a. is_kept l.config l.place l.me a.device) (take l.announcement-index l.announcements)
