use Rattle.folder_db.proofs.folder.IndexedFolderFolderCore.find_block.Goals as goal

pub returns : goal.returns
returns c = rw (← c.self.view_is) (record { found = c.place.ensures.found; none = c.place.ensures.none })
