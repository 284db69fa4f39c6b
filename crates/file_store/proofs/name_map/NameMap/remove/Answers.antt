use Rattle.std.proofs.lemmas.Map.Text.{btree_map_updates_text}
use Rattle.file_store.proofs.name_map.NameMap.remove.Goals as goal

pub returns-clause-left : goal.returns-clause-left
returns-clause-left g c =
    let takes = btree_map_updates_text c.args.name.now c.args.self.now.map c.remove.new.self _ c.remove.ensures.updates in
    λ t q. takes q t
