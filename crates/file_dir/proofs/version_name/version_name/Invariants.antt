use Rattle.std.proofs.Common.{◌≡◌, ◌++◌, take, string_bytes}
use Rattle.file_dir.proofs.version_name.version_name.Given as goal

abbrev pub invariant-loop-byte : goal.invariant-loop-byte
invariant-loop-byte l = string_bytes l.name ≡ string_bytes l.initial.name ++ take l.byte-index l.byte-items
