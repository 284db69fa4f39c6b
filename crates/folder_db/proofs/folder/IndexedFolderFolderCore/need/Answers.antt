use Rattle.folder_db.proofs.folder.IndexedFolderFolderCore.need.Goals as goal

pub returns : goal.returns
returns c = rw (← c.self.view_is) (record { page = c.needed.ensures.page; none = c.needed.ensures.none })
