use Rattle.folder_core.specs.declared.change.Change.TheVariants.{Forget}
use Rattle.proof_node.proofs.FolderBests.{index-made}
use Rattle.proof_node.proofs.counting.forget.Goals as goal

pub returns-clause-counts : goal.returns-clause-counts
returns-clause-counts c =
    index-made (Forget c.args.device) c.args.folder.now c.forget.new.self c.forget.result c.forget.ensures.changes c.forget.ensures.choices c.forget.ensures.stay
