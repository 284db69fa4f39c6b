use Rattle.std.proofs.Common.{◌≡◌, ◌<◌, true, sym, ap, subst, ◌∙◌, rules}
use Rattle.std.specs.Prelude.{Some, is_some, vec_len}
use Rattle.std.specs.BTreeMap.{is_at}
use Rattle.std.specs.List.{remove}
use Rattle.std.specs.Map.{lookup, remove_entry}
use Rattle.sync_record.specs.Devices.{bytes_cmp}
use Rattle.sync_record.specs.Records.{Name}
use Rattle.folder_index.specs.declared.group.Group.{Group}
use Rattle.folder_index.specs.Chunks.{Chunk, groups_in}
use Rattle.folder_index.proofs.Listed.{Groups}
use Rattle.folder_index.proofs.Chunked.{absent_at, chunk_read_at, end_groups, ended_filled, found_at, filled_chunk, filled_set, remove_absent, take_groups, with_chunk}
use Rattle.folder_index.proofs.chunks.Chunks.take.Goals as goal

pub returns-then-len-eq1-clause-taken : goal.returns-then-len-eq1-clause-taken
returns-then-len-eq1-clause-taken c =
    let cs = c.args.self.now in
    let s = c.in-Ok.spot in
    let a = c.in-Ok.ensures in
    let n = c.as_str.result.now in
    let same : a.chunk ≡ c.index.result.now = chunk_read_at n cs s a c.index.result.now c.index.ensures in
    let one : vec_len a.chunk ≡ 1 = ap (λ (v : Chunk). vec_len v) same ∙ search rules in
    subst (λ m. groups_in (record { chunks = c.remove.new.self; count = c.args.self.now.count }) ≡ remove_entry (is_at (bytes_cmp m)) (groups_in cs)) c.as_str.ensures.value
    (end_groups cs s.chunk a.chunk a.group c.remove.new.self c.args.self.now.count a.at one s.place a.is c.requires.ordered n a.named c.remove.ensures.items)

pub returns-then-len-eq1-clause-filled : goal.returns-then-len-eq1-clause-filled
returns-then-len-eq1-clause-filled c = ended_filled c.args.self.now c.in-Ok.spot.chunk c.remove.new.self c.args.self.now.count c.requires.filled c.remove.ensures.items

pub returns-else-len-eq1-clause-taken : goal.returns-else-len-eq1-clause-taken
returns-else-len-eq1-clause-taken c =
    let cs = c.args.self.now in
    let s = c.in-Ok.spot in
    let a = c.in-Ok.ensures in
    let n = c.as_str.result.now in
    let same : a.chunk ≡ c.index_mut.result.now = chunk_read_at n cs s a c.index_mut.result.now c.index_mut.ensures.value in
    subst (λ m. groups_in (with_chunk cs s.chunk c.remove-else-len-eq1.new.self) ≡ remove_entry (is_at (bytes_cmp m)) (groups_in cs)) c.as_str.ensures.value
    (take_groups cs s.chunk a.chunk a.at s.place a.group a.is c.requires.ordered n a.named c.remove-else-len-eq1.new.self (c.remove-else-len-eq1.ensures.items ∙ ap (λ (v : Chunk). remove v.items s.place) (sym same)))

pub returns-else-len-eq1-clause-filled : goal.returns-else-len-eq1-clause-filled
returns-else-len-eq1-clause-filled c =
    let cs = c.args.self.now in
    let s = c.in-Ok.spot in
    let a = c.in-Ok.ensures in
    let n = c.as_str.result.now in
    let same : a.chunk ≡ c.index_mut.result.now = chunk_read_at n cs s a c.index_mut.result.now c.index_mut.ensures.value in
    let same_too : a.chunk ≡ c.index.result.now = chunk_read_at n cs s a c.index.result.now c.index.ensures in
    let some : 0 < vec_len a.chunk = filled_chunk cs s.chunk a.chunk c.requires.filled a.at in
    filled_set cs s.chunk c.remove-else-len-eq1.new.self c.requires.filled (search rules)

pub returns-in_default-clause-taken : goal.returns-in_default-clause-taken
returns-in_default-clause-taken c =
    let cs = c.args.self.now in
    subst (λ m. groups_in cs ≡ remove_entry (is_at (bytes_cmp m)) (groups_in cs)) c.as_str.ensures.value
    (remove_absent c.as_str.result.now (groups_in cs) (absent_at c.as_str.result.now cs c.in_default.field-0 c.in_default.ensures))

found_too : (n m : Name) (gs : Groups) (g : Group) → n ≡ m → lookup (is_at (bytes_cmp n)) gs ≡ Some g → true ≡ is_some (lookup (is_at (bytes_cmp m)) gs)
found_too n m gs g same found = sym (ap is_some (ap (λ k. lookup (is_at (bytes_cmp k)) gs) (sym same) ∙ found))

pub returns-then-len-eq1-clause-found : goal.returns-then-len-eq1-clause-found
returns-then-len-eq1-clause-found c = found_too c.as_str.result.now c.args.name.now (groups_in c.args.self.now) c.in-Ok.ensures.group c.as_str.ensures.value (found_at c.as_str.result.now c.args.self.now c.in-Ok.spot c.requires c.in-Ok.ensures)

pub returns-else-len-eq1-clause-found : goal.returns-else-len-eq1-clause-found
returns-else-len-eq1-clause-found c = found_too c.as_str.result.now c.args.name.now (groups_in c.args.self.now) c.in-Ok.ensures.group c.as_str.ensures.value (found_at c.as_str.result.now c.args.self.now c.in-Ok.spot c.requires c.in-Ok.ensures)

pub returns-in_default-clause-found : goal.returns-in_default-clause-found
returns-in_default-clause-found c = sym (ap is_some (ap (λ k. lookup (is_at (bytes_cmp k)) (groups_in c.args.self.now)) (sym c.as_str.ensures.value) ∙ absent_at c.as_str.result.now c.args.self.now c.in_default.field-0 c.in_default.ensures))
