use Rattle.std.proofs.Common.{◌≡◌, ◌++◌, ◌∷◌, ◌∙◌, [], List, sym, ap, subst}
use Rattle.sync_record.specs.Records.{FileRecord}
use Rattle.node_replay.specs.Places.{ArePlaces, place_at}
use Rattle.node_replay.proofs.Placing.{places-push}
use Rattle.node_replay.proofs.finished.Finished.push.Goals as goal

pub invariant_of-self-2 : goal.invariant_of-self-2
invariant_of-self-2 c =
    let rs = c.self.inside.records.items in
    let items : c.push_reserved.new.self.items ≡ rs ++ c.args.record ∷ [] =
    c.push_reserved.ensures.items ∙ ap (λ (l : List FileRecord). l ++ c.args.record ∷ []) c.in_ok-reserve.ensures.items in
    subst (λ (l : List FileRecord). ArePlaces l (place_at c.insert.new.self)) (sym items)
    (places-push rs c.self.inside.places c.insert.new.self c.args.record c.in_ok-name.name c.len-place.result (c.in_ok-name.ensures ∙ c.name.ensures) (c.len-place.ensures ∙ c.self.inside.records.ok.0)
    c.in_ok-insert.ensures.updates c.self.invariant)
