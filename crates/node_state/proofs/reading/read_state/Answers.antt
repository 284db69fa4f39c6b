use Rattle.std.proofs.Common.{◌≢◌, List, subst, ◌∙◌}
use Rattle.std.specs.Prelude.{AllPairs}
use Rattle.std.proofs.lemmas.Result.{err_from_is_err_and}
use Rattle.node_state.specs.declared.state.StoredFolder.{StoredFolder}
use Rattle.node_state.proofs.States.{meant, means}
use Rattle.node_state.proofs.reading.read_state.Goals as goal

pub returns-in_err-folders-clause-refused : goal.returns-in_err-folders-clause-refused
returns-in_err-folders-clause-refused c =
    let p = err_from_is_err_and c.from_residual.result c.from_residual.ensures.1 in
    rw (p.1, p.2) (λ ne s m.
    let r = meant c.args.me c.in-Some.edition c.in-Some.body.now c.args.text.now s c.in-Some.ensures.some m in
    c.in_err-folders.ensures.err ne r.ended r.good r.once)

pub returns-clause-meaning : goal.returns-clause-meaning
returns-clause-meaning c =
    let found = c.in_ok-folders.ensures in
    means c.args.me c.in-Some.edition c.in-Some.body.now c.args.text.now (record { folders = c.from_vec.result }) c.in-Some.ensures.some found.ended found.good
    (subst (λ (fs : List StoredFolder). AllPairs (λ f g. f.id ≢ g.id) fs) found.value found.once) (c.from_vec.ensures ∙ found.value)

pub returns-in_err-folders-clause-memory : goal.returns-in_err-folders-clause-memory
returns-in_err-folders-clause-memory c =
    let p = err_from_is_err_and c.from_residual.result c.from_residual.ensures.1 in
    rw (p.1, p.2) (λ e. record { edition = c.in-Some.edition; body = c.in-Some.body.now; begins = c.in-Some.ensures.some; some = c.in_err-folders.ensures.memory e })
