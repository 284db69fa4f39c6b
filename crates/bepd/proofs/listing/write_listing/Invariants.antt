use Rattle.std.proofs.Common.{◌≡◌}
use Rattle.bepd.proofs.Reports.{IsWritten, left_from}
use Rattle.bepd.proofs.listing.write_listing.Given as goal

-- the lines of the pages so far were written, and no write failed
abbrev pub invariant-loop-last : goal.invariant-loop-last
invariant-loop-last g l = record {
  written : IsWritten (g.F.FolderCore.state l.received.folder) l.page (g.W.Write.contents l.initial.writer.inner) (g.W.Write.contents l.writer.inner);
  none_failed : l.writer.failed ≡ l.initial.writer.failed;
}

abbrev pub decreases-loop-last : goal.decreases-loop-last
decreases-loop-last g l = left_from (g.F.FolderCore.state l.received.folder) l.page
