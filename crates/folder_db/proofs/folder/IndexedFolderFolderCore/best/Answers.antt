use Rattle.folder_db.proofs.folder.IndexedFolderFolderCore.best.Goals as goal

pub returns : goal.returns
returns c = rw (← c.self.view_is) (record { found = c.best_with_devices.ensures.found; none = c.best_with_devices.ensures.none })
