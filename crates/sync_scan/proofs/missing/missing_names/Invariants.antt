use Rattle.std.proofs.Common.{◌≡◌, ◌-◌, map}
use Rattle.std.specs.Prelude.{◌^◌}
use Rattle.file_store.specs.Listings.{AreAscending}
use Rattle.sync_scan.proofs.PageLemmas.{Collected}
use Rattle.sync_scan.proofs.missing.missing_names.Given as goal

abbrev pub invariant-loop-names : goal.invariant-loop-names
invariant-loop-names g l = record {
  folder : g.W.FolderCalls.folder l.calls ≡ g.W.FolderCalls.folder l.initial.calls;
  collected : Collected (g.W.FolderCalls.view l.initial.calls) (g.W.FolderCalls.view l.calls) (map (λ e. e.name) l.entries) l.names.keys l.cursor;
  order : AreAscending l.names.keys;
}

abbrev pub decreases-loop-names : goal.decreases-loop-names
decreases-loop-names g l = 2 ^ 63 - l.cursor
