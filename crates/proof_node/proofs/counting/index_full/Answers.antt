use Rattle.folder_core.specs.declared.change.Change.TheVariants.{IndexFull}
use Rattle.proof_node.proofs.FolderBests.{index-made}
use Rattle.proof_node.proofs.counting.index_full.Goals as goal

pub returns-clause-counts : goal.returns-clause-counts
returns-clause-counts c =
    index-made (IndexFull c.args.device c.args.records) c.args.folder.now c.index_full.new.self c.index_full.result c.index_full.ensures.changes c.index_full.ensures.choices c.index_full.ensures.stay
