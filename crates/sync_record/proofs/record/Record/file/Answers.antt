use Rattle.std.proofs.Common.{◌≡◌, pos, IsTrue, to_z, of_z, w32, w64, refl, ◌∙◌, rules}
use Rattle.std.proofs.lemmas.Int.{to_z_pos}
use Rattle.std.proofs.lemmas.Result.{IfOk-weaker}
use Rattle.sync_record.specs.Own.{file_record}
use Rattle.sync_record.specs.Validity.{describes_file}
use Rattle.sync_record.proofs.Fitting.{block_size_small, described_kept, tiling_fits}
use Rattle.sync_record.proofs.record.Record.file.Goals as goal

pub from_fields-requires-clause-blocks : goal.from_fields-requires-clause-blocks
from_fields-requires-clause-blocks c =
    rw c.into_vec.ensures (tiling_fits c.args.blocks c.args.size c.args.block_size c.requires.size c.requires.described c.requires.digests)

pub from_fields-requires-clause-kept : goal.from_fields-requires-clause-kept
from_fields-requires-clause-kept c =
    let size : to_z w64 c.args.size ≡ pos c.args.size = to_z_pos w64 c.args.size c.requires.size in
    let small = block_size_small c.args.block_size c.args.size c.args.blocks c.requires.described in
    let block_size : to_z w32 c.args.block_size ≡ pos c.args.block_size = to_z_pos w32 c.args.block_size small in
    let described : IsTrue (describes_file (to_z w64 c.args.size) (to_z w32 c.args.block_size) c.into_vec.result.items) =
    (λ i. describes_file (size i) (block_size i) (c.into_vec.ensures i)) ∙ c.requires.described in
    let items = (λ i. describes_file (pos c.args.size) (pos c.args.block_size) (c.into_vec.ensures i)) ∙ c.requires.described in
    described_kept _ c.args.size c.args.block_size refl block_size items described

pub returns : goal.returns
returns c =
    let size : to_z w64 c.args.size ≡ pos c.args.size = to_z_pos w64 c.args.size c.requires.size in
    let small = block_size_small c.args.block_size c.args.size c.args.blocks c.requires.described in
    let block_size : to_z w32 c.args.block_size ≡ pos c.args.block_size = to_z_pos w32 c.args.block_size small in
    let modified_s : to_z w64 (of_z w64 c.args.edit.modified_s) ≡ c.args.edit.modified_s = search rules in
    let modified_ns : to_z w32 (of_z w32 c.args.edit.modified_ns) ≡ c.args.edit.modified_ns = search rules in
    IfOk-weaker _ _ (λ r. r ≡ file_record c.args.name c.args.size c.args.block_size c.args.blocks c.args.edit) (λ r is. is
    ∙ (λ i. record (file_record c.args.name c.args.size c.args.block_size c.args.blocks c.args.edit) {
      size = size i;
      modified_s = modified_s i;
      modified_ns = modified_ns i;
      block_size = block_size i;
      blocks = c.into_vec.ensures i;
      symlink_target = c.new.ensures i;
    })) c.from_fields.ensures
