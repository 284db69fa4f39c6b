use Rattle.std.proofs.Common.{◌≢◌, refl, sym, ap, ◌∙◌}
use Rattle.folder_index.specs.Indexes.{IndexState}
use Rattle.folder_index.proofs.Indexed.{moved}
use Rattle.folder_index.proofs.Results.{whichever}
use Rattle.folder_index.proofs.Spared.{index_with}
use Rattle.folder_index.proofs.index.Index.set_all.Goals as goal

pub invariant_of-self : goal.invariant_of-self
invariant_of-self c =
    let i = c.self.inside in
    let d = c.args.device in
    let other : d ≢ i.names.me = λ e. c.requires.other (e ∙ ap (λ (s : IndexState). s.me) c.self.view_is) in
    whichever c.set_all.result c.set_all.ensures.ok c.set_all.ensures.err
    (λ ok. moved (sym ok) refl (index_with d c.args.records i.names i.local c.self.invariant other))
    (λ err. moved (sym err) refl c.self.invariant)
