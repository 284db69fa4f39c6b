use Rattle.std.proofs.Common.{◌∙◌, sym, arith}
use Rattle.crossbeam_channel.specs.Claims.{view}
use Rattle.proof_node.proofs.FullPasses.{idle-runs, passes-given, same-folder}
use Rattle.proof_node.proofs.passes.no_pass_is_left_of_a_full_folder.Goals as goal

pub returns : goal.returns
returns g c = λ s e items views port full kept at.
    let r = idle-runs items views port (view e.token) at full.idle kept in
    let given = passes-given items views port (view e.token) at full.idle r in
    let count = full.full in
    let same = same-folder items views port (view e.token) at full.idle r in
    (r, omega arith, sym same.0 ∙ full.same.0, sym same.1 ∙ full.same.1)
