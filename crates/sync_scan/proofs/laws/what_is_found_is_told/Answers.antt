use Rattle.file_store.specs.Sequences.{Since}
use Rattle.sync_scan.proofs.GoneLemmas.{changing-told, directory-told, file-is-told, skipped-told}
use Rattle.sync_scan.proofs.laws.what_is_found_is_told.Goals as goal

pub returns-clause-skipped : goal.returns-clause-skipped
returns-clause-skipped g c first n local told = skipped-told (Since g.S.FileStore.gives first) n local told

pub returns-clause-changing : goal.returns-clause-changing
returns-clause-changing g c first n local told = changing-told (Since g.S.FileStore.gives first) n local told

pub returns-clause-directory : goal.returns-clause-directory
returns-clause-directory g c first n local found told is = directory-told (Since g.S.FileStore.gives first) n local found told is

pub returns-clause-file : goal.returns-clause-file
returns-clause-file g c first n local found size block_size blocks told is = file-is-told (Since g.S.FileStore.gives first) n local found size block_size blocks told is
