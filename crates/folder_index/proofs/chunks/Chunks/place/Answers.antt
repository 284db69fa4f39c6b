use Rattle.std.proofs.Common.{◌≡◌, ap, subst, ◌∙◌, rules}
use Rattle.std.specs.Prelude.{Some, slice_get}
use Rattle.std.specs.BTreeMap.{is_at}
use Rattle.std.specs.Map.{lookup}
use Rattle.sync_record.specs.Devices.{bytes_cmp}
use Rattle.folder_index.specs.Groups.{name_in}
use Rattle.folder_index.proofs.Chunked.{absent_at, begun_after, got_some, put_in_gap}
use Rattle.folder_index.proofs.Results.{on_ok}
use Rattle.folder_index.proofs.chunks.Chunks.place.Goals as goal

pub put_again-requires-clause-absent : goal.put_again-requires-clause-absent
put_again-requires-clause-absent c =
    ap (lookup (is_at (bytes_cmp (name_in c.args.group)))) c.split.ensures.same ∙ absent_at (name_in c.args.group) c.args.self.now c.args.gap c.requires.gap

pub returns-then-len-lt-MAX_GROUPS-clause-placed : goal.returns-then-len-lt-MAX_GROUPS-clause-placed
returns-then-len-lt-MAX_GROUPS-clause-placed c =
    on_ok c.put.result (λ placed. placed ∙ put_in_gap (name_in c.args.group) c.args.group c.args.self.now c.args.gap c.requires.gap) c.put.ensures.placed

pub returns-then-gap-len-clause-placed : goal.returns-then-gap-len-clause-placed
returns-then-gap-len-clause-placed c =
    let cs = c.args.self.now in
    let v = c.in-Some.chunk.now in
    let at : slice_get cs.chunks.items c.args.gap.chunk ≡ Some v = subst (λ vs. slice_get vs c.args.gap.chunk ≡ Some v) c.deref.ensures.value (got_some c.deref.result.now c.args.gap.chunk c.get.result c.in-Some.chunk (c.get.ensures.lookup.0, c.get.ensures.lookup.1) c.in-Some.is) in
    let len = v.ok.0 in
    let end = c.if-gap-len.true in
    on_ok c.begin.result (λ placed. placed ∙ begun_after cs c.args.gap v c.args.group at (search rules) ∙ put_in_gap (name_in c.args.group) c.args.group cs c.args.gap c.requires.gap) c.begin.ensures.placed
