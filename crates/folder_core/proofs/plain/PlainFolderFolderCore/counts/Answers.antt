use Rattle.std.proofs.Common.{◌≡◌, List, length, ap, ◌∙◌, arith}
use Rattle.std.specs.Prelude.{◌&&◌, filter, not}
use Rattle.sync_record.specs.Records.{is_directory, is_live, is_live_file}
use Rattle.folder_core.specs.declared.announcement.Announcement.{Announcement as Entry}
use Rattle.folder_core.specs.Plain.{pulls_of}
use Rattle.folder_core.specs.PlainReads.{is_from, needed_names}
use Rattle.folder_core.proofs.PlainCounts.{own_counted, others_counted, pulls_counted}
use Rattle.folder_core.proofs.PlainNeed.{needed_are}
use Rattle.folder_core.proofs.plain.PlainFolderFolderCore.counts.Goals as goal

pub returns : goal.returns
returns c =
    let me = c.self.inside.me in
    let es = c.self.inside.entries.items in
    let last = c.self.inside.last in
    let pulls = pulls_of c.self.inside.pulls.items in
    let rises = c.self.invariant.rises in
    let listed = c.as_slice-entries.ensures.value in
    let files = c.live_files.ensures ∙ ap (λ (xs : List Entry). length (filter (λ e. is_from me e && is_live_file e.record) xs)) listed ∙ own_counted me es last pulls rises is_live_file in
    let directories = c.live_directories.ensures ∙ ap (λ (xs : List Entry). length (filter (λ e. is_from me e && (is_live e.record && is_directory e.record)) xs)) listed ∙ own_counted me es last pulls rises (λ r. is_live r && is_directory r) in
    let deletions = c.deletions.ensures ∙ ap (λ (xs : List Entry). length (filter (λ e. is_from me e && e.record.deleted) xs)) listed ∙ own_counted me es last pulls rises (λ r. r.deleted) in
    let needed = c.count_needed.ensures ∙ ap (λ (xs : List Entry). length (needed_names me xs)) listed ∙ ap length (needed_are me es last pulls rises) in
    let others = c.records_of_others.ensures ∙ ap (λ (xs : List Entry). length (filter (λ e. not (is_from me e)) xs)) listed ∙ others_counted me es last pulls rises in
    let listed_pulls : c.len.result ≡ length c.self.inside.pulls.items = omega (arith, c.len.ensures, c.self.inside.pulls.ok.0) in
    let begun = listed_pulls ∙ pulls_counted c.self.inside.pulls.items c.self.invariant.pulls_rise in
    rw (← c.self.view_is) (λ i. record {
      files = files i;
      directories = directories i;
      deletions = deletions i;
      needed = needed i;
      others = others i;
      pulls = begun i;
      last = last;
    })
