use Rattle.std.proofs.Common.{ap, inl, inr, refl, rules, subst, sym}
use Rattle.std.specs.Prelude.{option_copied}
use Rattle.file_store.specs.Asked.{Rename}
use Rattle.file_store.specs.Sequences.{CallsOnly, called, not_called}
use Rattle.sync_pull.specs.Moments.{IsOfPlace}
use Rattle.sync_pull.specs.Copies.{IsCopyRefused, IsRefused}
use Rattle.sync_pull.proofs.FailLemmas.{if-err}
use Rattle.sync_pull.proofs.copy.make_copy.Goals as goal

pub returns-in_err-rename-clause-asked : goal.returns-in_err-rename-clause-asked
returns-in_err-rename-clause-asked g c = λ keeps.
    let n = c.args.name.now in
    let why = c.in_err-rename.field-0.0 in
    let refused = IsRefused g.S.FileStore.gives g.S.FileStore.tree in
    let given = subst (λ r. g.S.FileStore.gives c.stat.new.self (Rename n c.in-Some.copy.now) r c.rename.new.self) c.in_err-rename.was c.rename.ensures.gives in
    if-err c.from_residual-in_err-rename.result why _ c.from_residual-in_err-rename.ensures.1
    (inr (subst (IsCopyRefused refused (g.S.FileStore.tree c.args.store.now) n) (sym (ap option_copied c.in-Some.is)) ((search rules), (c.stat.new.self, (c.stat.ensures.stats keeps).kept, why, c.rename.new.self, given))))

pub returns-in_err-stat-clause-calls : goal.returns-in_err-stat-clause-calls
returns-in_err-stat-clause-calls g c = called _ _ _ _ not_called tt c.stat.ensures.gives

pub returns-then-ne-clause-calls : goal.returns-then-ne-clause-calls
returns-then-ne-clause-calls g c = called _ _ _ _ not_called tt c.stat.ensures.gives

pub returns-in_err-rename-clause-calls : goal.returns-in_err-rename-clause-calls
returns-in_err-rename-clause-calls g c = subst (λ o. CallsOnly g.S.FileStore.gives (IsOfPlace c.args.name.now o) c.args.store.now c.rename.new.self) (sym (ap option_copied c.in-Some.is))
    (called _ _ _ _ (called _ _ _ _ not_called tt c.stat.ensures.gives) (inl (refl, refl)) c.rename.ensures.gives)

pub returns-clause-calls : goal.returns-clause-calls
returns-clause-calls g c = subst (λ o. CallsOnly g.S.FileStore.gives (IsOfPlace c.args.name.now o) c.args.store.now c.rename.new.self) (sym (ap option_copied c.in-Some.is))
    (called _ _ _ _ (called _ _ _ _ not_called tt c.stat.ensures.gives) (inl (refl, refl)) c.rename.ensures.gives)
