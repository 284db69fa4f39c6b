use Rattle.file_store.specs.Stores.{mem_tree}
use Rattle.bepd_pair.specs.Files.{IsNoPlaceForDirectory, directory_put}
use Rattle.bepd_pair.proofs.Filing.{refused_at}
use Rattle.bepd_pair.proofs.files.make_dir.Goals as goal

pub returns-in_err-put_directory : goal.returns-in_err-put_directory
returns-in_err-put_directory c =
    let old = mem_tree c.args.store.now in
    refused_at c.in_ok-name.name c.args.name.now (λ n. IsNoPlaceForDirectory old n) (λ n. directory_put old n) old (mem_tree c.put_directory.new.store)
    c.from_residual-in_err-put_directory.result c.in_err-put_directory.field-0.0 c.in_ok-name.ensures.answer.1 c.in_ok-name.ensures.answer.0 c.from_residual-in_err-put_directory.ensures.1 c.in_err-put_directory.ensures
