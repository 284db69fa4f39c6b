use Rattle.std.proofs.Common.{◌≡◌, take}
use Rattle.std.specs.Prelude.{map}
use Rattle.std.specs.List.{enumerate_from}
use Rattle.node_resume.specs.Resumed.{resumed_from, stored_of, taken}
use Rattle.node_resume.proofs.resuming.resume_all.Given as goal

abbrev pub invariant-loop-place : goal.invariant-loop-place
invariant-loop-place l =
    map taken l.resumed.items
    ≡ map (λ f. resumed_from l.config l.new_index_id l.is_left f.0 (stored_of f.1.id l.state.folders)) (enumerate_from 0 (take l.place l.config.folders))
