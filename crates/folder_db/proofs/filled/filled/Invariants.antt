use Rattle.std.proofs.Common.{drop}
use Rattle.folder_db.proofs.Filling.{IsPartly}
use Rattle.folder_db.proofs.filled.filled.Given as goal

abbrev pub invariant-loop-announcement : goal.invariant-loop-announcement
invariant-loop-announcement l = IsPartly l.fn.me l.announcements (drop l.announcement-index l.announcements) l.index
