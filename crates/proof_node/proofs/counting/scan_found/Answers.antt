use Rattle.std.proofs.Common.{refl}
use Rattle.std.specs.Prelude.{option_copied}
use Rattle.folder_core.specs.Calls.{scan_answer}
use Rattle.folder_core.specs.declared.change.Change.TheVariants.{ScanFound}
use Rattle.proof_node.proofs.FolderBests.{made}
use Rattle.proof_node.proofs.counting.scan_found.Goals as goal

pub returns-clause-counts : goal.returns-clause-counts
returns-clause-counts c =
    made c.args.folder.now.folder (ScanFound c.args.name.now (option_copied c.args.expected) c.args.found.now c.args.moment) (scan_answer c.scan_found.result) c.scan_found.new.self.folder c.args.folder.now.choices c.scan_found.new.self.choices
    c.scan_found.ensures.changes (λ a. refl) c.scan_found.ensures.choices
