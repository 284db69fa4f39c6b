-- When a file makes way for what is to be below its name (own rule; the digest by FIPS 180-4).
use Rattle.std.specs.Prelude.{ℕ, Bool, true, false, bytes_eq, ◌&&◌, ◌==◌, nat_lt, List, find, length, Option, Some, None}
use Rattle.sha2.specs.Sha256.{sha256}
use Rattle.sync_blocks.specs.declared.block.Block.{Block}
use Rattle.sync_record.specs.declared.kind.Kind.{Kind}
use Rattle.sync_record.specs.declared.kind.Kind.TheVariants.{File, Directory, Other}
use Rattle.sync_record.specs.Records.{FileRecord, is_live, kind_of}

-- the first block that has bytes
abbrev pub first_with_bytes : List Block → Option Block
first_with_bytes blocks = find (λ b. nat_lt 0 b.size) blocks

-- the bytes have this block's size and digest
abbrev pub are_bytes_of : Block → List ℕ → Bool
are_bytes_of b bytes = (length bytes == b.size) && bytes_eq (sha256 bytes) b.hash

-- the same of the first block that has bytes; where none has, nothing need be at hand
abbrev pub is_begun_by : Option Block → List ℕ → Bool
is_begun_by None bytes = true
is_begun_by (Some b) bytes = are_bytes_of b bytes

-- all that a directory needs is at hand, and nothing else has a place
abbrev pub is_at_hand : Kind → List Block → List ℕ → Bool
is_at_hand File blocks bytes = is_begun_by (first_with_bytes blocks) bytes
is_at_hand Directory blocks bytes = true
is_at_hand Other blocks bytes = false

-- way is made for what is live, and for a file only once bytes of it are at hand
abbrev pub may_make_way : FileRecord → List ℕ → Bool
may_make_way best bytes = is_live best && is_at_hand (kind_of best) best.blocks bytes
