use Rattle.folder_index.proofs.Keeping.{exchanged_any}
use Rattle.folder_index.proofs.name_entries.NameEntries.exchange.Goals as goal

pub returns-clause-placed : goal.returns-clause-placed
returns-clause-placed c = exchanged_any c.args.device c.args.announced c.args.self.now c.requires.one c.requires.named
