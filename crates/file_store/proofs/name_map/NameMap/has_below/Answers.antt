use Rattle.std.proofs.Common.{rules, ◌≡◌, ◌∷◌, true, false, string_bytes}
use Rattle.file_store.specs.Maps.{found_at}
use Rattle.file_store.specs.Names.{is_parent}
use Rattle.file_store.proofs.ListingLemmas.{left_apart, left_found}
use Rattle.file_store.proofs.name_map.NameMap.has_below.Goals as goal

pub returns-then-is_below-clause-some : goal.returns-then-is_below-clause-some
returns-then-is_below-clause-some g c =
    let name = string_bytes c.in-Some.name.now in
    let is : c.loop-name.name-iterator ≡ (c.in-Some.name.now, c.in-Some.field-0-1.now) ∷ c.next.new.self = search rules in
    let below : is_parent c.args.dir.now name ≡ true = search rules in
    λ t. (name, below, left_found c.args.dir.now (found_at c.args.self.now) _ _ _ is below c.loop-name.invariant.2)

pub loop-name-preserved : goal.loop-name-preserved
loop-name-preserved g c =
    let is : c.loop-name.name-iterator ≡ (c.in-Some.name.now, c.in-Some.field-0-1.now) ∷ c.next.new.self = search rules in
    let apart : is_parent c.args.dir.now (string_bytes c.in-Some.name.now) ≡ false = search rules in
    (tt, tt, left_apart c.args.dir.now (found_at c.args.self.now) _ _ _ is apart c.loop-name.invariant.2)
