use Rattle.std.proofs.Common.{◌≡◌, ◌-◌, ap, inr, length, refl, subst, sym, take, ◌∙◌}
use Rattle.std.specs.Prelude.{ℤ}
use Rattle.file_store.specs.Trees.{Tree}
use Rattle.sync_pull.specs.Copies.{AreListedCopies, IsRefused, RemovesFiles, TrimsCopies}
use Rattle.sync_pull.proofs.OldCopyLemmas.{listed-old}
use Rattle.file_store.specs.Sequences.{called, not_called}
use Rattle.file_store.proofs.SequenceLemmas.{called_on}
use Rattle.sync_pull.proofs.old_copies.remove_old_copies.Goals as goal

pub returns-clause-trims : goal.returns-clause-trims
returns-clause-trims g c = λ keeps.
    let n = c.args.name.now in
    let copy = c.args.copy.now in
    let refused = IsRefused g.S.FileStore.gives g.S.FileStore.tree in
    let old = g.S.FileStore.tree c.args.store.now in
    let new = g.S.FileStore.tree c.remove_first.new.store in
    let listing = c.in-Ok.listing in
    let counted = c.count_old_copies-count.ensures in
    let copies = counted.0 in
    let listed = subst (λ l. AreListedCopies n copy l copies) c.as_slice-entries.ensures.value counted.1 in
    let found = c.in-Ok.ensures.lists keeps in
    let exact = λ (e : _). c.listings_are_exact.ensures.entries old old listing e (record { value = found; failed = tt; kept = refl }) in
    let are = listed-old n copy old listing.entries.items exact copies found.order.entries listed in
    let many : c.saturating_sub-surplus.result ≡ length copies - (c.in-Some.most - 1) =
    c.saturating_sub-surplus.ensures ∙ ap (λ k. k - c.saturating_sub.result) counted.2 ∙ ap (λ k. length copies - k) c.saturating_sub.ensures in
    let removes = subst (λ (t : Tree). RemovesFiles refused (take c.saturating_sub-surplus.result copies) t new) (c.list.ensures.kept keeps) (c.remove_first.ensures.removes keeps copies counted.1) in
    subst (λ (most : ℤ). TrimsCopies refused most n copy old new) (sym c.in-Some.ensures)
    (inr (copies, are, subst (λ k. RemovesFiles refused (take k copies) old new) many removes))

pub returns-in_default-clause-calls : goal.returns-in_default-clause-calls
returns-in_default-clause-calls g c = λ q. not_called

pub returns-in_default-list-clause-calls : goal.returns-in_default-list-clause-calls
returns-in_default-list-clause-calls g c = λ q. called _ _ _ _ not_called tt c.list.ensures.gives

pub returns-clause-calls : goal.returns-clause-calls
returns-clause-calls g c = λ q. called_on _ _ _ _ _ (called _ _ _ _ not_called tt c.list.ensures.gives) (c.remove_first.ensures.calls q)
