use Rattle.std.proofs.Common.{◌≢◌, refl, sym, ◌∙◌}
use Rattle.std.proofs.lemmas.Bool.{true≢false}
use Rattle.folder_core.proofs.ListTests.{alike_bytes}
use Rattle.folder_index.proofs.Indexed.{moved, other_index}
use Rattle.folder_index.proofs.Results.{whichever}
use Rattle.folder_index.proofs.index.Index.set.Goals as goal

pub invariant_of-self-else-eq : goal.invariant_of-self-else-eq
invariant_of-self-else-eq c =
    let i = c.self.inside in
    let other : c.args.device ≢ i.names.me = λ same. true≢false (sym (alike_bytes c.args.device c.me.result (same ∙ sym c.me.ensures)) ∙ sym c.eq.ensures ∙ c.if-eq.false) in
    whichever c.set.result c.set.ensures.ok c.set.ensures.err
    (λ ok. moved (sym ok) refl (other_index i.names i.local c.self.invariant c.args.device other c.args.announced))
    (λ err. moved (sym err) refl c.self.invariant)
