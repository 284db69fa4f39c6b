use Rattle.std.proofs.Common.{◌∙◌}
use Rattle.folder_index.specs.Locals.{without_filed}
use Rattle.folder_index.proofs.Indexed.{filed_undone}
use Rattle.folder_index.proofs.index.add_own.Goals as goal

pub returns-then-is_err-clause-local_stays : goal.returns-then-is_err-clause-local_stays
returns-then-is_err-clause-local_stays c =
    c.unfile.ensures
    ∙ (λ i. without_filed (c.sequence-sequence.ensures.value i) (c.in_ok-file.ensures.ok i))
    ∙ filed_undone c.args.local.now c.args.announced c.requires.absent c.requires.unused
