use Rattle.node_threads.proofs.Leaving.{are_left}
use Rattle.node_threads.proofs.run.run_node.Goals as goal

pub returns : goal.returns
returns g c = record {
  left =
      are_left g.C.FolderCore.state c.args.start.folders.items c.in_ok-opened.opened.shared.items c.in_ok-cores-2.cores.items c.in_ok-opened.ensures.opened c.in_ok-cores-2.ensures;
}
