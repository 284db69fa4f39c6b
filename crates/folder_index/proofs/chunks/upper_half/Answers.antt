use Rattle.std.proofs.Common.{◌++◌, ◌∙◌}
use Rattle.std.proofs.lemmas.List.{take-append-drop}
use Rattle.folder_index.proofs.chunks.upper_half.Goals as goal

pub returns-clause-parts : goal.returns-clause-parts
returns-clause-parts c =
    (λ i. (c.shrink_to.ensures.items ∙ c.in_ok-upper.ensures.items) i ++ c.in_ok-upper.ensures.tail i) ∙ take-append-drop 64 c.args.chunk.now.items
