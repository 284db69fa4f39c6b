use Rattle.std.proofs.Common.{rules, sym, subst}
use Rattle.std.specs.Prelude.{Contains, IsTrue, map, ◌↔◌}
use Rattle.std.proofs.lemmas.Fn.{always_returns_same}
use Rattle.file_store.specs.declared.node.Listed.{Listed}
use Rattle.sync_scan.proofs.MissingLemmas.{listed-iff, order}
use Rattle.sync_scan.proofs.missing.is_listed.Goals as goal

pub returns : goal.returns
returns c =
    let facts = c.binary_search_by.ensures in
    let x = c.args.name.now in
    let found = facts.position (λ e. order e.name x) (always_returns_same _ _ _ (λ a r g called. search rules)) in
    let name = λ (e : Listed). e.name in
    subst (λ b. IsTrue b ↔ Contains (map name c.args.entries.now) x) (sym c.is_ok.ensures.value)
    (listed-iff name x c.args.entries.now c.binary_search_by.result facts.bound found c.requires)
