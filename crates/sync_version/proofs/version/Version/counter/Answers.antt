use Rattle.std.proofs.Common.{rules}
use Rattle.std.proofs.lemmas.List.Sorted.{answers_always}
use Rattle.sync_version.proofs.Gathered.{found, not_found, searchable}
use Rattle.sync_version.proofs.version.Version.counter.Goals as goal

pub returns-in-Ok : goal.returns-in-Ok
returns-in-Ok c =
    let at = c.in-Ok.ensures.position (λ pair. pair.0) (answers_always _ _ _ (λ f a r g called. search rules)) in
    rw (← c.self.view_is) (found c.self.inside.counters.items c.self.invariant c.args.id c.in-Ok.at c.index.result.now
    (rw (← c.deref.ensures.value) c.in-Ok.ensures.bound) c.index.ensures (rw (← c.deref.ensures.value) at))

pub returns-in-Err : goal.returns-in-Err
returns-in-Err c =
    let at = c.in-Err.ensures.position (λ pair. pair.0) (answers_always _ _ _ (λ f a r g called. search rules)) in
    rw (← c.self.view_is) (not_found c.self.inside.counters.items c.args.id c.in-Err.field-0
    ((rw c.deref.ensures.value at at) (searchable c.self.inside.counters.items c.self.invariant c.args.id)))
