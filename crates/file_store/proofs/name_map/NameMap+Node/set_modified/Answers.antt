use Rattle.std.proofs.Common.{◌≡◌, Some, rules}
use Rattle.std.proofs.lemmas.Map.Text.{btree_map_updates_text}
use Rattle.file_store.specs.Maps.{found_at}
use Rattle.file_store.proofs.PutLemmas.{put_modified}
use Rattle.file_store.proofs.name_map.NameMap+Node.set_modified.Goals as goal

pub returns-in-Some-clause-left : goal.returns-in-Some-clause-left
returns-in-Some-clause-left c =
    let n = c.args.name.now in
    let node = c.set_modified.new.self in
    let f = found_at c.args.self.now in
    let there : f n ≡ Some c.in-Some.node.now = search rules in
    let sets = btree_map_updates_text n c.args.self.now.map (c.get_mut.follows.lender node) _ ((c.get_mut.follows.holds node).3 (search rules)) in
    put_modified n c.args.moment f _ c.in-Some.node.now node c.set_modified.ensures.changed (λ t q. sets q t) there
