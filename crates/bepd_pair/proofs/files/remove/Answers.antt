use Rattle.std.proofs.Common.{refl, ap, ◌∙◌}
use Rattle.file_store.specs.Calls.{removed}
use Rattle.file_store.specs.Stores.{mem_tree}
use Rattle.file_store.specs.Trees.{Tree, is_directory}
use Rattle.bepd_pair.specs.Files.{CannotBeRemoved}
use Rattle.bepd_pair.proofs.Filing.{a_directory, directory_removed, file_removed, from_same, no_directory}
use Rattle.bepd_pair.proofs.files.remove.Goals as goal

pub returns-in-Directory : goal.returns-in-Directory
returns-in-Directory c =
    let old = mem_tree c.args.store.now in
    let mid = mem_tree c.stat.new.self in
    let new = mem_tree c.remove_dir.new.self in
    let n = c.args.name.now in
    let kept = (c.in_ok-stat.ensures.stats refl).kept in
    let there = ap (λ (t : Tree). is_directory (t.names n)) kept ∙ a_directory _ c.in_ok-stat.field-0 c.in_ok-stat.ensures.gives.1 c.in-Directory.is in
    from_same (λ t. CannotBeRemoved t n) (λ t. removed t n) old mid new c.remove_dir.result kept
    (directory_removed mid new n c.remove_dir.result there (c.remove_dir.ensures.removes refl))

pub returns-in_default : goal.returns-in_default
returns-in_default c =
    let old = mem_tree c.args.store.now in
    let mid = mem_tree c.stat.new.self in
    let new = mem_tree c.remove.new.self in
    let n = c.args.name.now in
    let kept = (c.in_ok-stat.ensures.stats refl).kept in
    let free = ap (λ (t : Tree). is_directory (t.names n)) kept ∙ no_directory _ c.in_ok-stat.field-0 c.in_ok-stat.ensures.gives.1 c.in_default.not-Directory in
    from_same (λ t. CannotBeRemoved t n) (λ t. removed t n) old mid new c.remove.result kept
    (file_removed mid new n c.remove.result free (c.remove.ensures.removes refl))
