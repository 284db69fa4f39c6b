use Rattle.std.proofs.Common.{◌≡◌, true, false, length, map, arith, sym, ap, subst, ◌∙◌, rules}
use Rattle.std.specs.Prelude.{slice_get, option_copied}
use Rattle.std.specs.List.{AllWithin}
use Rattle.std.proofs.lemmas.List.Sorted.{IsPartitionPoint-from_clause}
use Rattle.folder_core.specs.Announced.{key}
use Rattle.folder_core.specs.Plain.{Rises, filed}
use Rattle.folder_core.proofs.PlainGroup.{partitioned}
use Rattle.folder_core.proofs.PlainPut.{after_key, got, before_key_down, is_before_key, put-equal, put-inserts}
use Rattle.folder_index.proofs.entries.put.Goals as goal

pub returns-in-Less-clause-placed : goal.returns-in-Less-clause-placed
returns-in-Less-clause-placed c =
    let k = key c.args.announced.name c.args.device in
    let old = c.args.entries.now.items in
    let seen = c.deref.result.now in
    let place = IsPartitionPoint-from_clause (is_before_key k) seen c.partition_point-place.result c.partition_point-place.ensures.partitioned
    (partitioned (λ _. Unit {0}) (is_before_key k) (λ x y _. before_key_down k x y) seen (subst Rises (sym c.deref.ensures.value) c.requires.rises) (λ x i. tt))
    (λ a r f k. search rules) in
    let pass : AllWithin (λ e. is_before_key k e ≡ true) old 0 c.partition_point-place.result = subst (λ xs. AllWithin (λ e. is_before_key k e ≡ true) xs 0 c.partition_point-place.result) c.deref.ensures.value place.0 in
    let fail : AllWithin (λ e. is_before_key k e ≡ false) old c.partition_point-place.result (length old) = subst (λ xs. AllWithin (λ e. is_before_key k e ≡ false) xs c.partition_point-place.result (length xs)) c.deref.ensures.value place.1 in
    let found : option_copied c.get.result ≡ slice_get old c.partition_point-place.result = got _ _ c.get.result (c.get.ensures.lookup.0, c.get.ensures.lookup.1) ∙ ap (λ xs. slice_get xs c.partition_point-place.result) c.deref-2.ensures.value in
    ap (map filed) c.insert_reserved.ensures.items
    ∙ put-inserts (record { device = c.args.device; «record» = c.args.announced }) old c.partition_point-place.result (omega arith) pass
    (after_key k old c.partition_point-place.result _ c.order-order.result (sym found) fail c.order-order.ensures (λ t. cc))

pub returns-in-Greater-clause-placed : goal.returns-in-Greater-clause-placed
returns-in-Greater-clause-placed c =
    let k = key c.args.announced.name c.args.device in
    let old = c.args.entries.now.items in
    let seen = c.deref.result.now in
    let place = IsPartitionPoint-from_clause (is_before_key k) seen c.partition_point-place.result c.partition_point-place.ensures.partitioned
    (partitioned (λ _. Unit {0}) (is_before_key k) (λ x y _. before_key_down k x y) seen (subst Rises (sym c.deref.ensures.value) c.requires.rises) (λ x i. tt))
    (λ a r f k. search rules) in
    let pass : AllWithin (λ e. is_before_key k e ≡ true) old 0 c.partition_point-place.result = subst (λ xs. AllWithin (λ e. is_before_key k e ≡ true) xs 0 c.partition_point-place.result) c.deref.ensures.value place.0 in
    let fail : AllWithin (λ e. is_before_key k e ≡ false) old c.partition_point-place.result (length old) = subst (λ xs. AllWithin (λ e. is_before_key k e ≡ false) xs c.partition_point-place.result (length xs)) c.deref.ensures.value place.1 in
    let found : option_copied c.get.result ≡ slice_get old c.partition_point-place.result = got _ _ c.get.result (c.get.ensures.lookup.0, c.get.ensures.lookup.1) ∙ ap (λ xs. slice_get xs c.partition_point-place.result) c.deref-2.ensures.value in
    ap (map filed) c.insert_reserved-in-Greater.ensures.items
    ∙ put-inserts (record { device = c.args.device; «record» = c.args.announced }) old c.partition_point-place.result (omega arith) pass
    (after_key k old c.partition_point-place.result _ c.order-order.result (sym found) fail c.order-order.ensures (λ t. cc))

pub returns-in-Equal-clause-placed : goal.returns-in-Equal-clause-placed
returns-in-Equal-clause-placed c =
    let k = key c.args.announced.name c.args.device in
    let old = c.args.entries.now.items in
    let seen = c.deref.result.now in
    let place = IsPartitionPoint-from_clause (is_before_key k) seen c.partition_point-place.result c.partition_point-place.ensures.partitioned
    (partitioned (λ _. Unit {0}) (is_before_key k) (λ x y _. before_key_down k x y) seen (subst Rises (sym c.deref.ensures.value) c.requires.rises) (λ x i. tt))
    (λ a r f k. search rules) in
    let pass : AllWithin (λ e. is_before_key k e ≡ true) old 0 c.partition_point-place.result = subst (λ xs. AllWithin (λ e. is_before_key k e ≡ true) xs 0 c.partition_point-place.result) c.deref.ensures.value place.0 in
    let fail : AllWithin (λ e. is_before_key k e ≡ false) old c.partition_point-place.result (length old) = subst (λ xs. AllWithin (λ e. is_before_key k e ≡ false) xs c.partition_point-place.result (length xs)) c.deref.ensures.value place.1 in
    let found : option_copied c.get.result ≡ slice_get old c.partition_point-place.result = got _ _ c.get.result (c.get.ensures.lookup.0, c.get.ensures.lookup.1) ∙ ap (λ xs. slice_get xs c.partition_point-place.result) c.deref-2.ensures.value in
    put-equal (record { device = c.args.device; «record» = c.args.announced }) old c.partition_point-place.result (option_copied c.get.result) c.order-order.result pass (sym found) c.order-order.ensures c.in-Equal.is
