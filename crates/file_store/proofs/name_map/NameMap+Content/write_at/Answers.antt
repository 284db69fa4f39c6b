use Rattle.std.proofs.Common.{◌≡◌, Some, rules}
use Rattle.std.proofs.lemmas.Map.Text.{btree_map_updates_text}
use Rattle.file_store.specs.Maps.{found_at}
use Rattle.file_store.proofs.PutLemmas.{put_written}
use Rattle.file_store.proofs.name_map.NameMap+Content.write_at.Goals as goal

pub returns-in-Some-clause-left : goal.returns-in-Some-clause-left
returns-in-Some-clause-left c =
    let n = c.args.name.now in
    let w = c.write_at.new.self in
    let f = found_at c.args.self.now in
    let there : f n ≡ Some c.in-Some.content.now = search rules in
    let sets = btree_map_updates_text n c.args.self.now.map (c.get_mut.follows.lender w) _ ((c.get_mut.follows.holds w).3 (search rules)) in
    put_written n f _ c.in-Some.content.now w c.args.piece.now c.args.offset c.write_at.result c.write_at.ensures.written (λ t q. sets q t) there
