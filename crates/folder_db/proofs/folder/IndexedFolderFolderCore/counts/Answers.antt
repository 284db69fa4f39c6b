use Rattle.std.proofs.Common.{◌≡◌, length, ◌∙◌, arith}
use Rattle.folder_core.proofs.PlainCounts.{pulls_counted}
use Rattle.folder_db.proofs.folder.IndexedFolderFolderCore.counts.Goals as goal

pub returns : goal.returns
returns c =
    let f = c.self.inside in
    let listed : c.len.result ≡ length f.pulls.items = omega (arith, c.len.ensures, f.pulls.ok.0) in
    let begun = listed ∙ pulls_counted f.pulls.items c.self.invariant.pulls_rise in
    rw (← c.self.view_is) (λ i. record {
      files = c.totals-totals.ensures.files i;
      directories = c.totals-totals.ensures.directories i;
      deletions = c.totals-totals.ensures.deletions i;
      needed = c.totals-totals.ensures.needed i;
      others = c.totals-totals.ensures.others i;
      pulls = begun i;
      last = f.last;
    })
