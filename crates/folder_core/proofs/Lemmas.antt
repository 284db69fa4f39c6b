-- The laws, as the functions of src/laws.rt state them, for the proofs of other crates.
pub use Rattle.folder_core.proofs.Orders.{bytes_total, exact_names, keys_total, exact_keys}
pub use Rattle.folder_core.proofs.BestRule.{best-found, best-only, best-one, best-some, best-none, best-undominated, best_any_order}
pub use Rattle.folder_core.proofs.BestDevices.{devices-rise, devices-listed}
pub use Rattle.folder_core.proofs.AnnouncedIndexes.{get-announce_own, get-announce, get-index_own, get-index_other, get-without_own, get-without_other, either_order, announce-only, index-only}
pub use Rattle.folder_core.proofs.PullNeed.{need-rising, need-rule}
pub use Rattle.folder_core.proofs.ListTests.{In, in_contains, contains_in}
pub use Rattle.folder_core.proofs.BestList.{bests-rise, bests-announced, bests-listed, bests-by_name, bests-lines, IsOneOrWas, full-names, more-names}
pub use Rattle.folder_core.proofs.ChangeKept.{step-keeps}
pub use Rattle.folder_core.proofs.ChangeRest.{step-me, step-devices, step-locals, step-pulls}
pub use Rattle.folder_core.proofs.ChangeFolders.{empty-folder, step-folder}
pub use Rattle.folder_core.proofs.ChangeNumbers.{step-numbered, step-new}
pub use Rattle.folder_core.proofs.ChangeSequences.{step-taken, step-kept, step-fits}
pub use Rattle.folder_core.proofs.PullStages.{begin-opens, enter-commits, give_up-closes, abort-closes}
pub use Rattle.folder_core.proofs.PullNumbers.{number-least}
pub use Rattle.folder_core.proofs.PullBegins.{begin-busy, begin-unneeded, begin-unsupported, begin-begun}
pub use Rattle.folder_core.proofs.ScanRecords.{found-number, found-elsewhere, file-recorded, directory-recorded, gone-number, gone-elsewhere, gone-recorded, Finishes, finish-recorded}
pub use Rattle.folder_core.proofs.ChangeAnswers.{found-busy, found-moved, found-unchanged, found-counter, found-sequence, found-made, gone-busy, gone-moved, gone-unchanged, gone-counter, gone-sequence, gone-made}
pub use Rattle.folder_core.proofs.ChangeAnswers.{enter-stray, enter-moved, enter-superseded, enter-sequence, enter-entered, finish-stray, finish-done, give_up-stray, give_up-closed, abort-stray, abort-closed}
pub use Rattle.folder_core.proofs.ReadAnswers.{BestFound, best-read, no_best-read, need-page_rises, need-page_fits, need-page_of, need-page_has, IsPlaceOf, place-read, no_place-read, known-own, known-greatest, known-reached}
pub use Rattle.folder_core.proofs.BestPages.{bests_after-none, bests_after-lines, bests_after-short, bests_after-next, bests_after-page, bests-page_rises, bests-page_of, bests-page_has, bests-page_end, pages-together}
pub use Rattle.folder_core.proofs.ReadPages.{page-rises, page-fits, page-of, page-has}
pub use Rattle.folder_core.proofs.ScanUnchanged.{HasFound, unchanged-has, has-unchanged}
pub use Rattle.folder_core.proofs.PullCopies.{InConflict, copy-due}
