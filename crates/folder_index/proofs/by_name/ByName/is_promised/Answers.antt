use Rattle.std.proofs.Common.{sym, ap, ◌∙◌}
use Rattle.folder_index.specs.Chunks.{groups_in}
use Rattle.folder_index.proofs.Promised.{promise_of, promised_at}
use Rattle.folder_index.proofs.by_name.ByName.is_promised.Goals as goal

pub returns-in-Some : goal.returns-in-Some
returns-in-Some c =
    let i = c.self.inside in
    let n = c.args.name.now in
    rw (← c.self.view_is) (ap promise_of c.in-Some.ensures.value ∙ sym (promised_at (groups_in i.names) c.self.invariant.chunked.are.ordered n))

pub returns-in-None : goal.returns-in-None
returns-in-None c =
    let i = c.self.inside in
    let n = c.args.name.now in
    rw (← c.self.view_is) (ap promise_of c.in-None.ensures.value ∙ sym (promised_at (groups_in i.names) c.self.invariant.chunked.are.ordered n))
