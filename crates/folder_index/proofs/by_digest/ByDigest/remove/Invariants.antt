use Rattle.std.proofs.Common.{◌≡◌, take}
use Rattle.std.specs.FinSet.{from_list}
use Rattle.std.specs.List.{All}
use Rattle.folder_index.specs.Digests.{FitsIn64Bits, without_blocks}
use Rattle.folder_index.proofs.by_digest.ByDigest.remove.Given as goal

abbrev pub invariant-loop-i : goal.invariant-loop-i
invariant-loop-i l = record {
  fit : All FitsIn64Bits l.self-inside.places.keys;
  places : from_list l.self-inside.places.keys ≡ without_blocks l.owner (take l.i l.blocks) l.fn.self;
}
