use Rattle.std.proofs.Common.{◌≡◌, Some, true, rules, ap, sym, ◌∙◌, cond}
use Rattle.std.specs.Prelude.{is_some}
use Rattle.std.proofs.lemmas.Map.Text.{btree_map_updates_text}
use Rattle.file_store.specs.Maps.{found_at, put_at}
use Rattle.file_store.proofs.name_map.NameMap.replace.Goals as goal

pub returns-in-Some : goal.returns-in-Some
returns-in-Some g c =
    let n = c.args.name.now in
    let there : is_some (found_at c.args.self.now n) ≡ true = search rules in
    let sets = btree_map_updates_text n c.args.self.now.map (c.get_mut.follows.lender c.args.value) _ ((c.get_mut.follows.holds c.args.value).3 (search rules)) in
    (λ t q. sets q t) ∙ sym (ap (λ b. cond b (put_at n (Some c.args.value) (found_at c.args.self.now)) (found_at c.args.self.now)) there)
