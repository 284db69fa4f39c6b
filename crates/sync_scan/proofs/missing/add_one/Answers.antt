use Rattle.std.proofs.Common.{◌≡◌, ◌∙◌, true, ap, sym, subst}
use Rattle.std.specs.Prelude.{Contains, IsTrue, map, not}
use Rattle.std.specs.BTreeSet.{Updates}
use Rattle.file_store.specs.declared.node.Listed.{Listed}
use Rattle.sync_scan.proofs.MissingLemmas.{adds-one, order}
use Rattle.sync_scan.proofs.missing.add_one.Goals as goal

pub returns-in-Ok-clause-adds : goal.returns-in-Ok-clause-adds
returns-in-Ok-clause-adds c =
    let r = c.args.record.now in
    let listed = map (λ (e : Listed). e.name) c.args.entries.now in
    let named = c.in_ok-copy.ensures ∙ c.name-2.ensures in
    let live : IsTrue (not r.deleted) = ap not (sym c.is_deleted.ensures ∙ c.if-is_deleted.false) in
    let apart : Contains listed r.name → ⊥ = λ i.
    let is : c.is_listed.result ≡ true = c.is_listed.ensures.1 (subst (Contains listed) (sym c.name.ensures) i) in
    absurd (cc) in
    adds-one listed r c.args.names.now c.insert.new.self
    (subst (λ k. Updates order c.args.names.now c.insert.new.self k true) named c.in-Ok.ensures.updates) live apart
