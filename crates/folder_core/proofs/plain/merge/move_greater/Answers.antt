use Rattle.std.proofs.Common.{◌≡◌, ◌≤◌, ◌++◌, ◌∷◌, [], false, length, map, reverse, take, sym, ap, subst, ◌∙◌, arith, rules, vec_len}
use Rattle.std.specs.Prelude.{Some}
use Rattle.std.specs.List.{AllWithin}
use Rattle.std.proofs.lemmas.List.Sorted.{IsPartitionPoint-from_clause}
use Rattle.folder_core.specs.Announced.{key}
use Rattle.folder_core.specs.Plain.{Rises, filed}
use Rattle.folder_core.proofs.PlainGroup.{partitioned}
use Rattle.folder_core.proofs.PlainMerge.{entry_step, front_rises, is_up_to_key, merged, moved, popped_front, popped_greater, up_to_key_down}
use Rattle.folder_core.proofs.plain.merge.move_greater.Goals as goal

pub loop-entries-preserved-in-Some-pop : goal.loop-entries-preserved-in-Some-pop
loop-entries-preserved-in-Some-pop c =
    let d = c.args.device in
    let rs = c.args.records.now in
    let r = c.in-Some.record.now in
    let k = key r.name d in
    let old = c.args.entries.now.items in
    let es = c.loop-entries.entries.items in
    let es' = c.pop.new.self.items in
    let e = c.in-Some-pop.entry in
    let room = c.loop-entries.room.items in
    let kept = c.partition_point-kept.result in
    let seen = c.deref-2.result.now in
    let inv = c.loop-entries.invariant in
    let split : es ≡ es' ++ e ∷ [] = c.in-Some-pop.ensures.items in
    let place = IsPartitionPoint-from_clause (is_up_to_key k) seen kept c.partition_point-kept.ensures.partitioned
    (partitioned (λ _. Unit {0}) (is_up_to_key k) (λ x y _. up_to_key_down k x y) seen (subst Rises (sym c.deref-2.ensures.value) c.requires.rises) (λ x i. tt))
    (λ a r f k. search rules) in
    let fails : AllWithin (λ y. is_up_to_key k y ≡ false) old kept (length old) = subst (λ xs. AllWithin (λ y. is_up_to_key k y ≡ false) xs kept (length xs)) c.deref-2.ensures.value place.1 in
    let len : vec_len c.pop.new.self ≡ length es' = omega arith in
    let one_less = c.in-Some-pop.ensures.len in
    let one_more = c.push_reserved.ensures.len in
    let total = inv.len in
    let within : kept ≤ length es' = omega arith in
    let greater = popped_greater k old es es' e kept (vec_len c.loop-entries.entries) inv.front split fails within in
    record {
      all =
          ap (λ xs. merged d es' rs ++ map filed (reverse xs)) c.push_reserved.ensures.items
          ∙ moved (merged d es' rs) room e
          ∙ ap (λ xs. xs ++ map filed (reverse room)) (sym (entry_step d es es' rs (Some e) r c.requires.names_rise split (sym c.in-Some.ensures.value) greater))
          ∙ inv.all;
      rises = front_rises es es' (Some e) split inv.rises;
      front = popped_front k old es es' e kept (vec_len c.loop-entries.entries) inv.front split ∙ ap (λ n. take n old) (sym len);
      within = omega arith;
      len = omega arith;
      no_more = let most = inv.no_more in omega arith;
      entries_capacity = c.in-Some-pop.ensures.capacity ∙ inv.entries_capacity;
      room_capacity = c.push_reserved.ensures.capacity ∙ inv.room_capacity;
    }
