use Rattle.folder_db.proofs.folder.IndexedFolderFolderCore.bests.Goals as goal

pub returns : goal.returns
returns c = rw (← c.self.view_is) (record { page = c.bests.ensures.page; none = c.bests.ensures.none })
