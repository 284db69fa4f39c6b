use Rattle.std.proofs.Common.{sym, ◌∙◌}
use Rattle.folder_index.proofs.Nearby.{at_spot}
use Rattle.folder_index.proofs.chunks.Chunks.find_at.Goals as goal

pub returns-then-is_at : goal.returns-then-is_at
returns-then-is_at c = at_spot c.args.name.now c.args.spot c.args.self.now (sym c.is_at.ensures ∙ c.if-is_at.true)
