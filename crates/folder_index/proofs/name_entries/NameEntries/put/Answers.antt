use Rattle.std.proofs.Common.{subst}
use Rattle.folder_index.specs.NameEntries.{AreNamed, entries_kept}
use Rattle.folder_index.proofs.Keeping.{name_put}
use Rattle.folder_index.proofs.name_entries.NameEntries.put.Goals as goal

pub returns-in-Many-clause-name : goal.returns-in-Many-clause-name
returns-in-Many-clause-name c =
    name_put c.args.device c.args.announced c.in-Many.entries.items c.put.new.entries.items
    (subst (λ k. AreNamed c.args.announced.name (entries_kept k)) c.in-Many.is c.requires.named) c.put.ensures.placed
