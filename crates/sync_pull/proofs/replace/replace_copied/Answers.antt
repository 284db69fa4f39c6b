use Rattle.std.proofs.Common.{Option, Some, subst, sym}
use Rattle.file_store.specs.Names.{Name}
use Rattle.file_store.specs.Sequences.{CallsOnly}
use Rattle.file_store.proofs.SequenceLemmas.{called_on}
use Rattle.sync_pull.specs.Moments.{IsOfPlace}
use Rattle.sync_pull.proofs.MomentLemmas.{places_copy}
use Rattle.sync_pull.proofs.replace.replace_copied.Goals as goal

pub returns-in_err-make_copy-clause-calls : goal.returns-in_err-make_copy-clause-calls
returns-in_err-make_copy-clause-calls g c =
    subst (λ (o : Option Name). CallsOnly g.S.FileStore.gives (IsOfPlace c.args.name.now o) c.args.store.now c.make_copy.new.store) (sym c.in-Some.is) (c.make_copy.ensures.calls)

pub returns-then-not-branch-clause-calls : goal.returns-then-not-branch-clause-calls
returns-then-not-branch-clause-calls g c =
    subst (λ (o : Option Name). CallsOnly g.S.FileStore.gives (IsOfPlace c.args.name.now o) c.args.store.now c.make_copy.new.store) (sym c.in-Some.is) (c.make_copy.ensures.calls)

pub returns-clause-calls : goal.returns-clause-calls
returns-clause-calls g c =
    subst (λ (o : Option Name). CallsOnly g.S.FileStore.gives (IsOfPlace c.args.name.now o) c.args.store.now c.put_in_place.new.store) (sym c.in-Some.is) (called_on _ _ _ _ _ c.make_copy.ensures.calls (places_copy _ c.args.name.now (Some c.in-Some.copy) _ _ c.put_in_place.ensures.calls))

pub returns-in-Err-clause-calls : goal.returns-in-Err-clause-calls
returns-in-Err-clause-calls g c =
    subst (λ (o : Option Name). CallsOnly g.S.FileStore.gives (IsOfPlace c.args.name.now o) c.args.store.now c.move_back.new.store) (sym c.in-Some.is) (called_on _ _ _ _ _ (called_on _ _ _ _ _ c.make_copy.ensures.calls (places_copy _ c.args.name.now (Some c.in-Some.copy) _ _ c.put_in_place.ensures.calls)) c.move_back.ensures.calls)
