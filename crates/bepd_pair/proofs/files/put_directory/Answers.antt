use Rattle.std.proofs.Common.{refl, ap, ◌∙◌}
use Rattle.file_store.specs.Stores.{mem_tree}
use Rattle.file_store.specs.Trees.{Tree, is_directory}
use Rattle.bepd_pair.specs.Files.{IsNoPlaceForDirectory, directory_put}
use Rattle.bepd_pair.proofs.Filing.{directory_made, from_same, no_directory}
use Rattle.bepd_pair.proofs.files.put_directory.Goals as goal

pub returns-in_default : goal.returns-in_default
returns-in_default c =
    let old = mem_tree c.args.store.now in
    let mid = mem_tree c.stat.new.self in
    let n = c.args.name.now in
    let kept = (c.in_ok-stat.ensures.stats refl).kept in
    let free = ap (λ (t : Tree). is_directory (t.names n)) kept ∙ no_directory _ c.in_ok-stat.field-0 c.in_ok-stat.ensures.gives.1 c.in_default.not-Directory in
    from_same (λ t. IsNoPlaceForDirectory t n) (λ t. directory_put t n) old mid (mem_tree c.make_dir.new.self) c.make_dir.result kept
    (directory_made mid (mem_tree c.make_dir.new.self) n c.make_dir.result free (c.make_dir.ensures.makes refl))
