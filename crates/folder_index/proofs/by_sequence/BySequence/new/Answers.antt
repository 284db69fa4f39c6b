use Rattle.std.proofs.Common.{ap, ◌∙◌}
use Rattle.std.specs.FinMap.{from_sorted}
use Rattle.std.specs.Ordering.{nat_cmp}
use Rattle.folder_index.proofs.Sequenced.{Sequences, none_sequenced}
use Rattle.folder_index.proofs.by_sequence.BySequence.new.Goals as goal

pub returns : goal.returns
returns c = ap (λ (es : Sequences). from_sorted {R = nat_cmp} es) c.new.ensures.empty ∙ none_sequenced
