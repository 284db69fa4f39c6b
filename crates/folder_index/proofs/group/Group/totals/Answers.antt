use Rattle.std.proofs.Common.{◌≡◌, List, cond, length, sym, ap, ◌∙◌}
use Rattle.std.specs.Prelude.{◌&&◌, filter, not}
use Rattle.sync_record.specs.Records.{is_directory, is_live, is_live_file}
use Rattle.folder_core.specs.declared.announcement.Announcement.{Announcement as Entry}
use Rattle.folder_core.specs.PlainReads.{is_from}
use Rattle.folder_index.specs.Groups.{needed_in}
use Rattle.folder_index.proofs.group.Group.totals.Goals as goal
use Rattle.folder_index.proofs.group.Group.totals.Goals.{then-self, else-self}

pub returns : goal.returns
returns c =
    let me = c.args.me in
    let needed : c.if-self.result ≡ needed_in c.args.self.now =
    elim c.if-self.branch [
      | then-self w ↦ w.result-is ∙ ap (λ b. cond b 1 0) (sym w.if-self.true)
      | else-self w ↦ w.result-is ∙ ap (λ b. cond b 1 0) (sym w.if-self.false)
    ] in
    let value = c.entries-entries.ensures in
    let files = c.live_files.ensures ∙ ap (λ (es : List Entry). length (filter (λ e. is_from me e && is_live_file e.record) es)) value in
    let directories = c.live_directories.ensures ∙ ap (λ (es : List Entry). length (filter (λ e. is_from me e && (is_live e.record && is_directory e.record)) es)) value in
    let deletions = c.deletions.ensures ∙ ap (λ (es : List Entry). length (filter (λ e. is_from me e && e.record.deleted) es)) value in
    let others = c.records_of_others.ensures ∙ ap (λ (es : List Entry). length (filter (λ e. not (is_from me e)) es)) value in
    λ i. record { files = files i; directories = directories i; deletions = deletions i; needed = needed i; others = others i }
