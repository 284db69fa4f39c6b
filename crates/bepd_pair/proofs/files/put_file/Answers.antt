use Rattle.std.proofs.Common.{refl, ap, ◌∙◌}
use Rattle.file_store.specs.Stores.{mem_tree}
use Rattle.file_store.specs.Trees.{Tree, is_directory}
use Rattle.bepd_pair.specs.Files.{IsNoPlaceForFile, file_put}
use Rattle.bepd_pair.proofs.Filing.{from_same, no_directory}
use Rattle.bepd_pair.proofs.files.put_file.Goals as goal

pub write_file-requires : goal.write_file-requires
write_file-requires c =
    let kept = (c.in_ok-stat.ensures.stats refl).kept in
    ap (λ (t : Tree). is_directory (t.names c.args.name.now)) kept ∙ no_directory _ c.in_ok-stat.field-0 c.in_ok-stat.ensures.gives.1 c.in_default.not-Directory

pub returns-in_default : goal.returns-in_default
returns-in_default c =
    from_same (λ t. IsNoPlaceForFile t c.args.name.now) (λ t. file_put t c.args.name.now c.args.text.now c.args.moment) (mem_tree c.args.store.now) (mem_tree c.stat.new.self) (mem_tree c.write_file.new.store)
    c.write_file.result (c.in_ok-stat.ensures.stats refl).kept c.write_file.ensures
