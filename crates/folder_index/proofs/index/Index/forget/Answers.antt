use Rattle.std.proofs.Common.{◌≢◌, refl, sym, ap, ◌∙◌}
use Rattle.std.specs.FinMap.{entries}
use Rattle.folder_index.specs.Devices.{names_by}
use Rattle.folder_index.specs.Indexes.{IndexState}
use Rattle.folder_index.proofs.Announcing.{forgotten_index}
use Rattle.folder_index.proofs.Indexed.{moved}
use Rattle.folder_index.proofs.Results.{whichever}
use Rattle.folder_index.proofs.index.Index.forget.Goals as goal

pub invariant_of-self : goal.invariant_of-self
invariant_of-self c =
    let i = c.self.inside in
    let d = c.args.device in
    let other : d ≢ i.names.me = λ e. c.requires (e ∙ ap (λ (s : IndexState). s.me) c.self.view_is) in
    whichever c.forget.result c.forget.ensures.ok c.forget.ensures.err
    (λ ok. moved (sym ok) refl (forgotten_index d (names_by d (entries i.names.announced)) i.names i.local c.self.invariant other))
    (λ err. moved (sym err) refl c.self.invariant)
