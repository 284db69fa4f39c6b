use Rattle.std.proofs.Common.{refl}
use Rattle.std.specs.Prelude.{Some}
use Rattle.folder_core.specs.Calls.{finish_answer}
use Rattle.folder_core.specs.declared.change.Change.TheVariants.{Finish}
use Rattle.proof_node.proofs.FolderBests.{made}
use Rattle.proof_node.proofs.counting.finish.Goals as goal

pub returns-clause-counts : goal.returns-clause-counts
returns-clause-counts c =
    made c.args.folder.now.folder (Finish c.args.commit c.args.assembled.now) (Some (finish_answer c.finish.result)) c.finish.new.self.folder c.args.folder.now.choices c.finish.new.self.choices
    c.finish.ensures.change (λ a. refl) c.finish.ensures.choices
