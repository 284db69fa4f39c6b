use Rattle.std.proofs.Common.{◌≡◌, ◌++◌, ◌∙◌, List, map, reverse, ap}
use Rattle.std.specs.FinMap.{from_sorted}
use Rattle.folder_core.specs.declared.announcement.Announcement.{Announcement}
use Rattle.folder_core.specs.Announced.{Key, announce, key_cmp}
use Rattle.folder_core.specs.Plain.{Rises, filed}
use Rattle.node_replay.specs.Laid.{by_me}
use Rattle.node_replay.proofs.All.{both-ok}
use Rattle.node_replay.proofs.Announcing.{found, laid}
use Rattle.node_replay.proofs.laying.laid_over.Goals as goal

pub returns-clause-announced : goal.returns-clause-announced
returns-clause-announced c =
    let me = c.args.me in
    let below = c.args.below.now in
    let told = c.args.told.items in
    let is : c.add_copies.new.entries.items ≡ map (by_me me) (reverse told) ++ below =
    c.in_ok-add_copies.ensures ∙ ap (λ (l : List Announcement). l ++ below) c.in_ok-entries.ensures in
    both-ok {P = λ kept. Rises kept.items} {Q = λ kept. (k : Key) → found k kept.items ≡ found k c.add_copies.new.entries.items}
    {R = λ kept. from_sorted {R = key_cmp} (map filed kept.items) ≡ announce me told (from_sorted (map filed below))}
    c.first_of_each.result
    (λ kept up same. laid me below told c.requires kept.items up (λ k. same k ∙ ap (found k) is))
    c.first_of_each.ensures.rises c.first_of_each.ensures.first
