use Rattle.std.proofs.Common.{◌≡◌, ap, sym, refl, ◌∙◌, rules}
use Rattle.std.specs.List.{list_all}
use Rattle.std.proofs.lemmas.Iterator.{YieldsList-from_slice}
use Rattle.std.proofs.lemmas.Iterator.Search.{all_from_yields_List}
use Rattle.sync_record.specs.Assemblies.{is_complete}
use Rattle.sync_record.proofs.Placed.{all_placed}
use Rattle.sync_record.proofs.assembly.Assembly.done.Goals as goal

pub invariant_of-result : goal.invariant_of-result
invariant_of-result c =
    let complete : c.all.result ≡ list_all (λ p. p) c.self.inside.placed.items =
    all_from_yields_List (λ p. p) _ _ c.all.result c.all.ensures.ran (YieldsList-from_slice c.self.inside.placed.items (c.iter.ensures.rest ∙ c.deref.ensures.value)) (λ x b q k. search rules) in
    all_placed c.self.inside.placed.items c.self.inside.target.blocks c.self.invariant.placed (sym complete ∙ c.if-all.true)

pub returns-then-all-clause-exactly : goal.returns-then-all-clause-exactly
returns-then-all-clause-exactly c =
    let complete : c.all.result ≡ list_all (λ p. p) c.self.inside.placed.items =
    all_from_yields_List (λ p. p) _ _ c.all.result c.all.ensures.ran (YieldsList-from_slice c.self.inside.placed.items (c.iter.ensures.rest ∙ c.deref.ensures.value)) (λ x b q k. search rules) in
    (λ _. ap is_complete (sym c.self.view_is) ∙ sym complete ∙ c.if-all.true, λ _. refl)
