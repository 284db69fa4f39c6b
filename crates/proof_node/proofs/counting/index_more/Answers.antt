use Rattle.folder_core.specs.declared.change.Change.TheVariants.{IndexMore}
use Rattle.proof_node.proofs.FolderBests.{index-made}
use Rattle.proof_node.proofs.counting.index_more.Goals as goal

pub returns-clause-counts : goal.returns-clause-counts
returns-clause-counts c =
    index-made (IndexMore c.args.device c.args.records) c.args.folder.now c.index_more.new.self c.index_more.result c.index_more.ensures.changes c.index_more.ensures.choices c.index_more.ensures.stay
