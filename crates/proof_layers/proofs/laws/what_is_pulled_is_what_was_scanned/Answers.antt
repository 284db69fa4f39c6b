use Rattle.std.proofs.Common.{length, refl, inr}
use Rattle.std.specs.Prelude.{IsTrue}
use Rattle.proof_layers.proofs.AlikeLemmas.{ContentLaws, are-alike}
use Rattle.proof_layers.proofs.ScanLemmas.{FolderLaws, ScanLaws, deleted-by, directory-by, drop-size, file-by, scan-stands}
use Rattle.proof_layers.proofs.laws.what_is_pulled_is_what_was_scanned.Goals as goal

pub returns-clause-scanned : goal.returns-clause-scanned
returns-clause-scanned g c gate begun old new n moment tree result keeps scans is =
    let calls : FolderLaws = record {
      opened = λ v w change a gets. (c.calls_share_one_history.ensures.grows v w change (record { at = length w.seen; value = a }) gets).1;
      accepted = c.answers_are_those_of_the_folder.ensures.accepted;
      other = c.answers_are_those_of_the_folder.ensures.other;
      view = c.histories_may_be_divided.ensures.view;
      folder = c.views_are_of_folders.ensures.folder;
    } in
    let laws : ScanLaws = record {
      found_directory = λ s m expected f at k of recorded. directory-by _ _ (c.scans_record_what_is_found.ensures.directory s m expected f at k of recorded) refl refl;
      found_file = λ s m expected f size block_size blocks at k of recorded.
          file-by size blocks _ _ (c.scans_record_what_is_found.ensures.file s m expected f size block_size blocks at k of recorded) refl refl refl (inr refl);
      same_directory = λ s m expected f at of same.
          let h = c.unchanged_is_what_was_there.ensures.directory s m expected f at of same in
          directory-by _ h.0 h.1 h.2 h.3;
      same_file = λ s m expected f size block_size blocks at of same.
          let h = c.unchanged_is_what_was_there.ensures.file s m expected f size block_size blocks at of same in
          file-by size blocks _ h.0 h.1 h.2 h.3 h.4 (drop-size h.5);
      deletion = λ s m expected at k r folder here recorded. deleted-by _ _ (c.scans_record_what_is_gone.ensures.deletion s m expected at k r folder here recorded) refl;
    } in
    scan-stands calls laws g.S.FileStore.gives _ (IsTrue g.S.FileStore.keeps) tree old new n moment result keeps scans is

pub returns-clause-alike : goal.returns-clause-alike
returns-clause-alike g c r q one other a b same =
    let laws : ContentLaws = record {
      deletions = c.same_content_in_words.ensures.deletions;
      directories = c.same_content_in_words.ensures.directories;
      files = c.same_content_in_words.ensures.files;
    } in
    are-alike laws r q one other same a b
