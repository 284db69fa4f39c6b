use Rattle.std.proofs.Common.{◌≡◌, [], ◌∷◌, ◌++◌, rules}
use Rattle.file_store.specs.Maps.{found_at}
use Rattle.file_store.proofs.PutLemmas.{made_dir_or_not}
use Rattle.file_store.proofs.changes.make_dir.Goals as goal

pub returns : goal.returns
returns c =
    let n = c.args.name.now in
    let slash : c.as_str.result.now ≡ n ++ 47 ∷ [] = search rules in
    made_dir_or_not n c.as_str.result.now (found_at c.args.names.now) (found_at c.make_parents.new.names) c.make_parents.result slash c.requires.free c.make_parents.ensures
