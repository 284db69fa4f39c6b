use Rattle.folder_db.proofs.folder.IndexedFolderFolderCore.local_since.Goals as goal

pub returns : goal.returns
returns c = rw (← c.self.view_is) (record { page = c.page.ensures.page; none = c.page.ensures.none })
