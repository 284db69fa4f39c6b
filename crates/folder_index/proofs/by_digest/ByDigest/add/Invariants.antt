use Rattle.std.proofs.Common.{◌≡◌, take}
use Rattle.folder_index.specs.Digests.{with_blocks}
use Rattle.folder_index.proofs.by_digest.ByDigest.add.Given as goal

abbrev pub invariant-loop-i : goal.invariant-loop-i
invariant-loop-i l = l.self ≡ with_blocks l.owner (take l.i l.blocks) l.fn.self
