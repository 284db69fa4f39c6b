use Rattle.std.proofs.Common.{◌≡◌, ◌++◌, ◌∷◌, ◌∙◌, [], List, append_assoc, sym, ap, rules}
use Rattle.std.proofs.lemmas.List.{map-append}
use Rattle.folder_core.specs.declared.announcement.Announcement.{Announcement}
use Rattle.node_replay.specs.Laid.{by_me}
use Rattle.node_replay.proofs.laying.announced_by.Goals as goal

pub loop-own-init : goal.loop-own-init
loop-own-init c = record {
  entries = c.in_ok-entries.ensures.items;
  divided = sym (c.into_iter-own-iterator.ensures.into_iter_gives.0 ∙ c.reverse.ensures.items);
}

pub loop-own-preserved : goal.loop-own-preserved
loop-own-preserved c =
    let step : c.loop-own.own-iterator.rest.items ≡ c.in-Some.own ∷ c.next.new.self.rest.items = search rules in
    record {
      entries = c.in_ok-push.ensures.items
          ∙ ap (λ (l : List Announcement). l ++ by_me c.args.me c.in-Some.own ∷ []) c.loop-own.invariant.entries
          ∙ sym (map-append (by_me c.args.me) c.loop-own.yielded (c.in-Some.own ∷ []));
      divided = c.loop-own.invariant.divided ∙ ap (λ l. c.loop-own.yielded ++ l) step
          ∙ sym (append_assoc c.loop-own.yielded (c.in-Some.own ∷ []) c.next.new.self.rest.items);
    }
