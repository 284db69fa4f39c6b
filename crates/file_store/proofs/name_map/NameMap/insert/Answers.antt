use Rattle.std.proofs.Common.{◌≡◌, Some, ap, ◌∙◌, string_bytes}
use Rattle.std.proofs.lemmas.Map.Text.{btree_map_updates_text}
use Rattle.std.proofs.lemmas.Result.{IfOk-at_ok}
use Rattle.file_store.specs.Maps.{found_at, put_at}
use Rattle.file_store.proofs.name_map.NameMap.insert.Goals as goal

-- the key has the name's bytes
pub returns : goal.returns
returns g c =
    let key = IfOk-at_ok (λ s. string_bytes s ≡ c.args.name.now) c.in_ok-key.was c.from_str.ensures.ok in
    let sets = btree_map_updates_text (string_bytes c.in_ok-key.key) c.args.self.now.map c.insert.new.self _ c.in_ok-insert.ensures.updates in
    λ t q. (sets q ∙ ap (λ n. put_at n (Some c.args.value) (found_at c.args.self.now) q) key) t
