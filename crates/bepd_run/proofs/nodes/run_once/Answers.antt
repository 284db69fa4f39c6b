use Rattle.std.proofs.Common.{rules, ◌≡◌, ◌∙◌, ℕ, List, length, map}
use Rattle.node_resume.specs.Left.{folders_left}
use Rattle.bepd_run.proofs.Starting.{as-many-left}
use Rattle.bepd_run.proofs.nodes.run_once.Goals as goal

pub state_left-requires-clause-records : goal.state_left-requires-clause-records
state_left-requires-clause-records g c =
    let all : length c.args.node.folders.items ≡ length c.args.config.now.folders = search rules in
    as-many-left (λ k. k.folder) c.args.node.folders.items c.in_ok-cores.field-0.cores.items c.in_ok-cores.ensures.left ∙ all

pub returns : goal.returns
returns g c =
    let kept : List (List ℕ) = map (λ k. k.items) c.as_slice-4.result.now in
    record {
      left = (
        c.in_ok-cores.field-0.cores.items,
        kept,
        c.in_ok-cores.ensures.left,
        c.in_ok-state.ensures
            ∙ (λ j. folders_left c.args.config.now (c.as_slice-2.ensures.value j) (map (λ s. s.items) (c.as_slice-3.ensures.value j)) (map (λ r. r.folder) c.in_ok-cores.field-0.cores.items) kept),
      );
    }
