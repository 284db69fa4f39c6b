use Rattle.file_store.specs.Stores.{mem_tree}
use Rattle.bepd_pair.specs.Files.{IsNoPlaceForFile, file_put}
use Rattle.bepd_pair.proofs.Filing.{refused_at}
use Rattle.bepd_pair.proofs.files.put.Goals as goal

pub returns-in_err-put_file : goal.returns-in_err-put_file
returns-in_err-put_file c =
    let old = mem_tree c.args.store.now in
    refused_at c.in_ok-name.name c.args.name.now (λ n. IsNoPlaceForFile old n) (λ n. file_put old n c.args.text.now c.args.moment) old (mem_tree c.put_file.new.store)
    c.from_residual-in_err-put_file.result c.in_err-put_file.field-0.0 c.in_ok-name.ensures.answer.1 c.in_ok-name.ensures.answer.0 c.from_residual-in_err-put_file.ensures.1 c.in_err-put_file.ensures
