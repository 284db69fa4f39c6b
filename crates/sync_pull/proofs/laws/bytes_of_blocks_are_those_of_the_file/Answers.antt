use Rattle.std.proofs.Common.{subst, sym, drop, ◌∙◌}
use Rattle.sync_pull.specs.Bytes.{HasBlock}
use Rattle.sync_pull.proofs.FetchLemmas.{at-block, begins-at, of-length, tiled-size}
use Rattle.sync_pull.proofs.laws.bytes_of_blocks_are_those_of_the_file.Goals as goal

pub returns-clause-size : goal.returns-clause-size
returns-clause-size c = λ blocks size block_size bytes t own. of-length blocks bytes own ∙ tiled-size blocks size block_size t

pub returns-clause-each : goal.returns-clause-each
returns-clause-each c = λ blocks size block_size i b bytes t own e.
    subst (λ k. HasBlock b (drop k bytes)) (sym (begins-at blocks size block_size t i b e)) (at-block blocks bytes own i b e)
