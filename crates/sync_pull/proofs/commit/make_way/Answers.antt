use Rattle.std.proofs.Common.{refl}
use Rattle.file_store.specs.Sequences.{called, not_called}
use Rattle.sync_pull.proofs.commit.make_way.Goals as goal

pub returns-in-File-Directory-clause-calls : goal.returns-in-File-Directory-clause-calls
returns-in-File-Directory-clause-calls g c = called _ _ _ _ not_called refl c.remove.ensures.gives

pub returns-in-File-Nothing-clause-calls : goal.returns-in-File-Nothing-clause-calls
returns-in-File-Nothing-clause-calls g c = called _ _ _ _ not_called refl c.remove-in-File-Nothing.ensures.gives

pub returns-in-Directory-File-clause-calls : goal.returns-in-Directory-File-clause-calls
returns-in-Directory-File-clause-calls g c = called _ _ _ _ not_called refl c.remove_dir.ensures.gives

pub returns-in-Directory-Nothing-clause-calls : goal.returns-in-Directory-Nothing-clause-calls
returns-in-Directory-Nothing-clause-calls g c = called _ _ _ _ not_called refl c.remove_dir-in-Directory-Nothing.ensures.gives
