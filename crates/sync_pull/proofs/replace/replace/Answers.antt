use Rattle.std.proofs.Common.{Ok, rules, subst, sym, true, ◌≡◌}
use Rattle.sync_pull.specs.Moments.{IsOfPlace, checked, copy_of, unchanged}
use Rattle.file_store.specs.Sequences.{CallsOnly}
use Rattle.sync_pull.specs.declared.replace.CopyPlan.{CopyPlan}
use Rattle.sync_pull.proofs.MomentLemmas.{looks_temp}
use Rattle.sync_pull.proofs.replace.replace.Goals as goal

pub returns-in_err-stands_as-clause-checks : goal.returns-in_err-stands_as-clause-checks
returns-in_err-stands_as-clause-checks g c = unchanged (search rules) (looks_temp _ c.args.name.now _ _ c.stands_as.ensures.looks)

pub returns-then-not-branch-clause-checks : goal.returns-then-not-branch-clause-checks
returns-then-not-branch-clause-checks g c = unchanged tt (looks_temp _ c.args.name.now _ _ c.stands_as.ensures.looks)

pub returns-in_err-put_in_place-in-NotDue-clause-checks : goal.returns-in_err-put_in_place-in-NotDue-clause-checks
returns-in_err-put_in_place-in-NotDue-clause-checks g c =
    let stands : c.stands_as.result ≡ Ok true = search rules in
    checked c.stands_as.new.store (c.stands_as.ensures.told stands)
    (subst (λ (p : CopyPlan). CallsOnly g.S.FileStore.gives (IsOfPlace c.args.name.now (copy_of p)) c.stands_as.new.store c.put_in_place.new.store) (sym c.in-NotDue.is) c.put_in_place.ensures.calls)

pub returns-in_ok-put_in_place-in-NotDue-clause-checks : goal.returns-in_ok-put_in_place-in-NotDue-clause-checks
returns-in_ok-put_in_place-in-NotDue-clause-checks g c =
    let stands : c.stands_as.result ≡ Ok true = search rules in
    checked c.stands_as.new.store (c.stands_as.ensures.told stands)
    (subst (λ (p : CopyPlan). CallsOnly g.S.FileStore.gives (IsOfPlace c.args.name.now (copy_of p)) c.stands_as.new.store c.put_in_place.new.store) (sym c.in-NotDue.is) c.put_in_place.ensures.calls)

pub returns-in-Due-clause-checks : goal.returns-in-Due-clause-checks
returns-in-Due-clause-checks g c =
    let stands : c.stands_as.result ≡ Ok true = search rules in
    checked c.stands_as.new.store (c.stands_as.ensures.told stands)
    (subst (λ (p : CopyPlan). CallsOnly g.S.FileStore.gives (IsOfPlace c.args.name.now (copy_of p)) c.stands_as.new.store c.replace_copied.new.store) (sym c.in-Due.is) c.replace_copied.ensures.calls)
