use Rattle.std.proofs.Common.{refl}
use Rattle.folder_core.proofs.RestoreFolders.{restored-folder, folder-restored, restored-records, restored-last, may-again, restored-again}
use Rattle.folder_core.proofs.laws.restores.restored_folders_are_folders.Goals as goal

pub returns-clause-folder : goal.returns-clause-folder
returns-clause-folder c = λ me records last. (
  λ m. (m.not_negative, m.once, restored-folder me records last m),
  λ h. folder-restored me records last h.0 h.1 h.2,
)

pub returns-clause-records : goal.returns-clause-records
returns-clause-records c = λ me records last d n r m. restored-records me records last m d n r

pub returns-clause-rest : goal.returns-clause-rest
returns-clause-rest c = λ me records last m. (refl, restored-last last m.not_negative, refl)

pub returns-clause-again : goal.returns-clause-again
returns-clause-again c = λ s folder. (may-again s folder, restored-again s folder)
