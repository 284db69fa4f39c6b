use Rattle.std.proofs.Common.{◌≡◌, true, false, refl, sym, ap, ◌∙◌}
use Rattle.std.specs.Prelude.{bytes_eq}
use Rattle.std.proofs.lemmas.Bool.{true≢false}
use Rattle.folder_core.proofs.ListTests.{alike_bytes, same_bytes}
use Rattle.folder_index.specs.Locals.{all_local}
use Rattle.folder_index.proofs.Indexed.{free_none, free_same, not_free}
use Rattle.folder_index.proofs.index.Index.is_free.Goals as goal

pub returns-in-Some : goal.returns-in-Some
returns-in-Some c =
    let i = c.self.inside in
    let n = c.args.name.now in
    let o = c.in-Some.announced.now in
    let filed = sym c.in-Some.ensures in
    let test = c.eq.ensures ∙ ap (λ m. bytes_eq m n) c.name.ensures in
    rw (← c.self.view_is) (
      λ t. free_same i.names (all_local i.local) c.self.invariant.locals n c.args.sequence o filed (same_bytes o.name n (sym test ∙ t)),
      λ free. elim c.eq.result as (λ b. c.eq.result ≡ b → c.eq.result ≡ true) [
        | true ↦ λ t. t
        | false ↦ λ t. absurd (not_free i.names (all_local i.local) c.self.invariant.locals n c.args.sequence o filed (λ s. true≢false (sym (alike_bytes o.name n s) ∙ sym test ∙ t)) free)
      ] refl,
    )

pub returns-in-None : goal.returns-in-None
returns-in-None c =
    let i = c.self.inside in
    rw (← c.self.view_is) (λ t. free_none i.names (all_local i.local) c.self.invariant.locals c.args.name.now c.args.sequence (sym c.in-None.ensures), λ free. refl)
