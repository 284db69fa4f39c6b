use Rattle.file_store.specs.Stores.{mem_tree}
use Rattle.file_store.specs.Calls.{removed}
use Rattle.bepd_pair.specs.Files.{CannotBeRemoved}
use Rattle.bepd_pair.proofs.Filing.{refused_at}
use Rattle.bepd_pair.proofs.files.delete.Goals as goal

pub returns-in_err-remove : goal.returns-in_err-remove
returns-in_err-remove c =
    let old = mem_tree c.args.store.now in
    refused_at c.in_ok-name.name c.args.name.now (λ n. CannotBeRemoved old n) (λ n. removed old n) old (mem_tree c.remove.new.store)
    c.from_residual-in_err-remove.result c.in_err-remove.field-0.0 c.in_ok-name.ensures.answer.1 c.in_ok-name.ensures.answer.0 c.from_residual-in_err-remove.ensures.1 c.in_err-remove.ensures
