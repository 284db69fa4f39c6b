use Rattle.std.proofs.Common.{◌∙◌, length, sym, ap}
use Rattle.std.specs.List.{enumerate_from}
use Rattle.std.proofs.lemmas.List.{length-map}
use Rattle.std.proofs.lemmas.List.FromFn.{length-enumerate_from}
use Rattle.node_resume.specs.Resumed.{resumed_from, stored_of, taken}
use Rattle.bepd_run.proofs.nodes.NextNode.new.Goals as goal

pub folders_of-requires : goal.folders_of-requires
folders_of-requires g c =
    sym (length-map c.in_ok-resumed.resumed.items taken) ∙ ap length c.in_ok-resumed.ensures
    ∙ length-map (enumerate_from 0 c.args.config.now.folders) (λ f. resumed_from c.args.config.now c.new_index_id.result c.args.is_left f.0 (stored_of f.1.id c.args.state.now.folders))
    ∙ length-enumerate_from 0 c.args.config.now.folders
