use Rattle.std.proofs.Common.{◌≢◌, refl, sym, ◌∙◌}
use Rattle.std.proofs.lemmas.Bool.{true≢false}
use Rattle.folder_core.proofs.ListTests.{alike_bytes}
use Rattle.folder_index.proofs.Indexed.{moved, other_index_cleared}
use Rattle.folder_index.proofs.index.Index.clear.Goals as goal

pub invariant_of-self-else-eq : goal.invariant_of-self-else-eq
invariant_of-self-else-eq c =
    let i = c.self.inside in
    let other : c.args.device ≢ i.names.me = λ same. true≢false (sym (alike_bytes c.args.device c.me.result (same ∙ sym c.me.ensures)) ∙ sym c.eq.ensures ∙ c.if-eq.false) in
    moved (sym c.clear.ensures) refl (other_index_cleared i.names i.local c.self.invariant c.args.device other c.args.name.now)
